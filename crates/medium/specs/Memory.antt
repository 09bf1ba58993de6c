-- Media in a memory, where each strip takes w bytes: what a test and a writing ask of it, and what a writing leaves alone.
--   Passes   what the test asks: counts within the limits, and a memory of their length
--   Tests    what the test answers: the counts, which keep the limits, if they pass, else 2
--   Room     there is such a frame, the memory has its length, and the codes are as many as the squares of a frame
--   Beside   all is as it was but from the place lo up to the place hi
--   Filled   the first t strips of frame f are as P says, and every byte that is not the frame's is as it was
-- Assumes nothing.
use Rattle.std.specs.Prelude.{◌≡◌, ℕ, ◌+◌, ◌*◌, ◌<◌, ◌≤◌, List, length, Result, MatchResult, slice_index}
use Rattle.refusal.specs.declared.Refusal.{Refusal}
use Rattle.refusal.specs.declared.Refusal.TheVariants.{Unsuited}
use Rattle.medium.specs.Counts.{frame_count, strip_count, square_count}
use Rattle.medium.specs.declared.counts.Counts.{Counts}
use Rattle.medium.specs.Limits.{Suited}
use Rattle.medium.specs.Places.{size_of}

-- fs frames of n strips of m squares, in a memory of so many bytes
abbrev pub Passes : ℕ → ℕ → ℕ → ℕ → ℕ → Type 0
Passes fs n m w long = Suited fs n m × (long ≡ size_of fs n w)

abbrev pub Tests : ℕ → ℕ → ℕ → ℕ → ℕ → Result Counts Refusal → Type 0
Tests fs n m w long r = MatchResult r (λ c. (frame_count c ≡ fs) × (strip_count c ≡ n) × (square_count c ≡ m) × (long ≡ size_of fs n w) × Suited fs n m) (λ e. (e ≡ Unsuited) × (Passes fs n m w long → ⊥))

pub record Room (c : Counts) (w f : ℕ) (codes xs : List ℕ) : Type 0 where
  pub there : f < frame_count c
  pub long : length xs ≡ size_of (frame_count c) (strip_count c) w
  pub codes_long : length codes ≡ strip_count c * square_count c

pub record Beside (xs ys : List ℕ) (lo hi : ℕ) : Type 0 where
  pub long : length ys ≡ length xs
  pub below : (i : ℕ) → i < lo → slice_index ys i ≡ slice_index xs i
  pub above : (i : ℕ) → hi ≤ i → slice_index ys i ≡ slice_index xs i

pub record Filled (n w f t : ℕ) (P : ℕ → List ℕ → Type 0) (xs ys : List ℕ) : Type 0 where
  pub strips : (s : ℕ) → s < t → P s ys
  pub beside : Beside xs ys (f * n * w) ((f * n + n) * w)
