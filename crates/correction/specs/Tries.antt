-- What is tried for a showing.
--   clear      a square of a strip that is not gone that shows a code clearly
--   Readout    the array of the clear codes, and 0 elsewhere
--   Masked     the marks of the strips that are gone
--   Covers     the list has every doubtful square, and one square more
--   Doubted    the list has the doubtful squares, each once
--   Close      a frame that an array agrees with but for gone strips, a few wrong ones, the doubtful squares and one square more
--   Missed     no frame that fits is close, with that one square more
-- Assumes nothing.
use Rattle.std.specs.Prelude.{◌≡◌, ℕ, ◌+◌, ◌*◌, ◌/◌, ◌<◌, Bool, true, cond, not, ◌&&◌, ◌⊎◌, List, length, slice_index}
use Rattle.laws.specs.Ops.{Ops}
use Rattle.algebra.specs.Frames.{IsFrame}
use Rattle.algebra.specs.Showings.{Showing, count, doubt, doubtful_squares, Fits}
use Rattle.solver.specs.Sums.{Apart, marked}
use Rattle.correction.specs.Nearing.{Ahead}

abbrev pub clear : ℕ → Showing → ℕ → Bool
clear m w p = not (w.gone (p / m)) && not (w.doubtful p)

pub record Readout (m n : ℕ) (w : Showing) (xs : List ℕ) : Type 0 where
  pub size : length xs ≡ n * m
  pub is : (p : ℕ) → p < n * m → slice_index xs p ≡ cond (clear m w p) (w.shown p) 0

pub record Masked (n : ℕ) (w : Showing) (gone : List Bool) : Type 0 where
  pub size : length gone ≡ n
  pub is : (j : ℕ) → j < n → marked gone j ≡ w.gone j

abbrev pub Covers : ℕ → ℕ → Showing → ℕ → List ℕ → Type 0
Covers m n w extra squares = (p : ℕ) → p < n * m → (doubt m w p ≡ true) ⊎ (p ≡ extra) → Ahead squares 0 p

pub record Doubted (m n : ℕ) (w : Showing) (squares : List ℕ) : Type 0 where
  pub number : length squares ≡ doubtful_squares m n w
  pub all : (p : ℕ) → p < n * m → doubt m w p ≡ true → Ahead squares 0 p
  pub places : (i : ℕ) → i < length squares → slice_index squares i < n * m
  pub only : (i : ℕ) → i < length squares → doubt m w (slice_index squares i) ≡ true
  pub apart : Apart squares

pub record Close (F : Ops) (m n c : ℕ) (w : Showing) (wrong : ℕ → Bool) (extra : ℕ) (xs ys : List ℕ) : Type 0 where
  pub frame : IsFrame F m n c ys
  pub room : 2 * count n wrong + count n w.gone < c
  pub agrees : (p : ℕ) → p < n * m → (slice_index xs p ≡ slice_index ys p) ⊎ ((w.gone (p / m) ≡ true) ⊎ ((wrong (p / m) ≡ true) ⊎ ((doubt m w p ≡ true) ⊎ (p ≡ extra))))

abbrev pub Missed : Ops → ℕ → ℕ → ℕ → ℕ → Showing → List ℕ → ℕ → Type 0
Missed F limit m n c w xs extra = (wrong : ℕ → Bool) (ys : List ℕ) → Close F m n c w wrong extra xs ys → Fits limit m n c w ys → ⊥
