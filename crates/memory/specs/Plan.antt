-- How a strip stands in a memory, and what every such plan keeps.
--   Plan     how many codes a square can show; the bytes of a strip of m squares; for the strip of m squares that starts at a place
--            whether it is gone, what each square is, and whether it takes a writing; the byte of a fresh memory at a place
--   Alike    w bytes from one place on are those from another place on
--   Laws     levels and widths keep their limits; a strip reads, and holds codes, by its own bytes alone; a strip that holds codes
--            is there, and shows them
-- Assumes nothing.
use Rattle.std.specs.Prelude.{◌≡◌, ℕ, ◌+◌, ◌<◌, ◌≤◌, Bool, false, List, slice_index}
use Rattle.medium.specs.Meaning.{Square, clear}

pub record Plan : Type 0 where
  pub levels : ℕ
  pub width : ℕ → ℕ
  -- of a memory, a place and a number of squares
  pub gone : List ℕ → ℕ → ℕ → Bool
  pub square : List ℕ → ℕ → ℕ → ℕ → Square
  pub writable : List ℕ → ℕ → ℕ → Bool
  -- of a number of squares, and a place
  pub fresh_byte : ℕ → ℕ → ℕ

pub record Alike (w : ℕ) (xs : List ℕ) (at : ℕ) (ys : List ℕ) (bt : ℕ) : Type 0 where
  pub each : (i : ℕ) → i < w → slice_index xs (at + i) ≡ slice_index ys (bt + i)

-- Holds xs at m codes from: the strip of m squares at a place of a memory holds m codes, from one of them on
pub record Laws (p : Plan) (Holds : List ℕ → ℕ → ℕ → List ℕ → ℕ → Type 0) : Type 0 where
  pub levels_least : 1 ≤ p.levels
  pub levels_most : p.levels ≤ 256
  pub width_most : (m : ℕ) → m ≤ 255 → p.width m ≤ 511
  pub gone_alone : (m : ℕ) (xs : List ℕ) (at : ℕ) (ys : List ℕ) (bt : ℕ) → Alike (p.width m) xs at ys bt → p.gone xs at m ≡ p.gone ys bt m
  pub square_alone : (m : ℕ) (xs : List ℕ) (at : ℕ) (ys : List ℕ) (bt k : ℕ) → Alike (p.width m) xs at ys bt → k < m → p.square xs at m k ≡ p.square ys bt m k
  pub writable_alone : (m : ℕ) (xs : List ℕ) (at : ℕ) (ys : List ℕ) (bt : ℕ) → Alike (p.width m) xs at ys bt → p.writable xs at m ≡ p.writable ys bt m
  pub holds_alone : (m : ℕ) (xs : List ℕ) (at : ℕ) (ys : List ℕ) (bt : ℕ) (codes : List ℕ) (from : ℕ) (ds : List ℕ) (to : ℕ) → Alike (p.width m) xs at ys bt → Alike m codes from ds to
      → Holds xs at m codes from → Holds ys bt m ds to
  pub held_there : (m : ℕ) (xs : List ℕ) (at : ℕ) (codes : List ℕ) (from : ℕ) → 1 ≤ m → ((k : ℕ) → k < m → slice_index codes (from + k) < p.levels) → Holds xs at m codes from → p.gone xs at m ≡ false
  pub held_shown : (m : ℕ) (xs : List ℕ) (at : ℕ) (codes : List ℕ) (from k : ℕ) → k < m → slice_index codes (from + k) < p.levels → Holds xs at m codes from → p.square xs at m k ≡ clear (slice_index codes (from + k))
