-- What a medium in a memory shows by its plan, and what a writing leaves there: strip after strip, frame after frame.
--   size             how many bytes the medium takes
--   place            where strip s of frame f starts
--   HasStrip         there is strip s of frame f, and the memory has the length of the medium
--   has_size         whether the memory has that length
--   frame_writable   every strip of frame f takes a writing
--   reads            what the bytes say. A memory of the wrong length is no medium's: it reads as closed, with every strip gone
--   shows            the meaning of a medium over a memory
--   Takes            these codes may be written as frame f: the counts keep the limits, the frame is there and open, there is a code for
--                    each of its squares, below the levels
--   Stored           all strips of frame f hold their codes, and every byte that is not the frame's is as it was
-- Assumes nothing.
use Rattle.std.specs.Prelude.{◌≡◌, ℕ, ◌*◌, ◌<◌, Bool, true, false, cond, List, length, ◌==◌}
use Rattle.refusal.specs.Codes.{Below}
use Rattle.medium.specs.Counts.{Shape}
use Rattle.medium.specs.Limits.{Suited}
use Rattle.medium.specs.Meaning.{Meaning}
use Rattle.medium.specs.Memory.{Room, Filled}
use Rattle.medium.specs.Places.{size_of, strip_at}
use Rattle.medium.specs.Within.{Reading, within}
use Rattle.memory.specs.Every.{every}
use Rattle.memory.specs.Plan.{Plan}

abbrev pub size : Plan → Shape → ℕ
size p c = size_of c.frames c.strips (p.width c.squares)

abbrev pub place : Plan → Shape → ℕ → ℕ → ℕ
place p c f s = strip_at c.strips (p.width c.squares) f s

pub record HasStrip (p : Plan) (c : Shape) (f s : ℕ) (xs : List ℕ) : Type 0 where
  pub frame : f < c.frames
  pub strip : s < c.strips
  pub long : length xs ≡ size p c

abbrev pub has_size : Plan → Shape → List ℕ → Bool
has_size p c xs = length xs == size p c

abbrev pub frame_writable : Plan → Shape → List ℕ → ℕ → Bool
frame_writable p c xs f = every c.strips (λ s. p.writable xs (place p c f s) c.squares)

abbrev pub reads : Plan → Shape → List ℕ → Reading
reads p c xs = record {
  unlocked = λ f. cond (has_size p c xs) (frame_writable p c xs f) false;
  gone = λ f s. cond (has_size p c xs) (p.gone xs (place p c f s) c.squares) true;
  square = λ f s k. p.square xs (place p c f s) c.squares k;
}

abbrev pub shows : Plan → Shape → List ℕ → Meaning
shows p c xs = within c.frames c.strips c.squares p.levels (reads p c xs)

pub record Takes (p : Plan) (c : Shape) (f : ℕ) (codes xs : List ℕ) : Type 0 where
  pub suited : Suited c.frames c.strips c.squares
  pub room : Room c (p.width c.squares) f codes xs
  pub below : Below p.levels codes
  pub unlocked : (shows p c xs).unlocked f ≡ true

-- strip s of frame f, written
abbrev pub strip_of : Plan → (List ℕ → ℕ → ℕ → List ℕ → ℕ → Type 0) → Shape → ℕ → List ℕ → ℕ → List ℕ → Type 0
strip_of p Holds c f codes s ys = Holds ys (place p c f s) c.squares codes (s * c.squares)

abbrev pub Stored : Plan → (List ℕ → ℕ → ℕ → List ℕ → ℕ → Type 0) → Shape → ℕ → List ℕ → List ℕ → List ℕ → Type 0
Stored p Holds c f codes xs ys = Filled c.strips (p.width c.squares) f c.strips (strip_of p Holds c f codes) xs ys
