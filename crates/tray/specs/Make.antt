-- How a tray is made, and how it wears.
--   Laid        a meaning is what the layout says of the bytes, byte by byte
--   Fresh       every frame is open, and every strip gone
--   no_strip    there is no such strip
--   no_square   there is no such square
--   Wears       what a wear command answers and leaves: refused if the place is not there, else the new bytes
-- Assumes nothing.
use Rattle.std.specs.Prelude.{◌≡◌, ℕ, ◌<◌, ◌≤◌, true, false, not, ◌⊎◌, List, [], ◌∷◌, Ok, Result, ◌==◌, slice_index}
use Rattle.refusal.specs.declared.Refusal.{Refusal}
use Rattle.refusal.specs.declared.Refusal.TheVariants.{NoSuchPlace}
use Rattle.refusal.specs.Outcome.{Outcome}
use Rattle.medium.specs.Counts.{frame_count, strip_count, square_count}
use Rattle.medium.specs.declared.counts.Counts.{Counts}
use Rattle.medium.specs.Meaning.{Meaning}
use Rattle.medium.specs.Places.{strip_at}
use Rattle.tray.specs.Layout.{width, code_at, doubt_at, square_of}

pub record Laid (c : Counts) (xs : List ℕ) (w : Meaning) : Type 0 where
  pub frames : w.frames ≡ frame_count c
  pub strips : w.strips ≡ strip_count c
  pub squares : w.squares ≡ square_count c
  pub levels : w.levels ≡ 256
  pub always_open : (f : ℕ) → f < frame_count c → w.unlocked f ≡ true
  pub gone : (f s : ℕ) → f < frame_count c → s < strip_count c → w.gone f s ≡ not (slice_index xs (strip_at (strip_count c) (width (square_count c)) f s) == 0)
  -- the logic has a memory as a list of numbers, so that a code byte is a byte is said here
  pub square : (f s k : ℕ) → f < frame_count c → s < strip_count c → k < square_count c → w.gone f s ≡ false → slice_index xs (code_at (strip_count c) (square_count c) f s k) < 256
      → w.square f s k ≡ square_of (slice_index xs (code_at (strip_count c) (square_count c) f s k)) (slice_index xs (doubt_at (strip_count c) (square_count c) f s k))

pub record Fresh (w : Meaning) : Type 0 where
  pub all_open : (f : ℕ) → f < w.frames → w.unlocked f ≡ true
  pub all_gone : (f s : ℕ) → f < w.frames → s < w.strips → w.gone f s ≡ true

abbrev pub no_strip : Counts → ℕ → ℕ → Type 0
no_strip c f s = (frame_count c ≤ f) ⊎ (strip_count c ≤ s)

abbrev pub no_square : Counts → ℕ → ℕ → ℕ → Type 0
no_square c f s k = (frame_count c ≤ f) ⊎ ((strip_count c ≤ s) ⊎ (square_count c ≤ k))

abbrev pub Wears : Type 0 → List ℕ → List ℕ → Result (Unit {0}) Refusal → List ℕ → Type 0
Wears missing xs new r ys = Outcome ((NoSuchPlace, missing) ∷ []) (ys ≡ xs) ((r ≡ Ok tt) × (ys ≡ new)) r
