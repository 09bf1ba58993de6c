-- What is shown of a frame, how it is read, and which frames fit it.
--   Showing      of a strip: whether it is gone; of the square at a place: whether it is doubtful, or the code that it shows clearly
--   reading      a showing as it counts over a field of order q: a clear code that is not below q counts as doubtful
--   count        how many numbers below k pass a test
--   doubt        the doubtful squares of strips that are not gone
--   differs      the clear squares of strips that are not gone where an array has another code than is shown
--   silent       those of them that lie outside the wrong strips
--   gone_strips, doubtful_squares, changed_squares   the three counts
--   Fits         some strips, none of them gone, can be named as wrong, such that few enough are gone or wrong and few enough
--                squares are doubtful or silent
-- Assumes nothing.
use Rattle.std.specs.Prelude.{◌≡◌, ℕ, zero, suc, ◌+◌, ◌*◌, ◌/◌, ◌<◌, ◌≤◌, Bool, true, false, cond, not, ◌&&◌, ◌||◌, List, ◌==◌, nat_lt, slice_index}

pub record Showing : Type 0 where
  pub gone : ℕ → Bool
  pub doubtful : ℕ → Bool
  pub shown : ℕ → ℕ

abbrev pub reading : ℕ → Showing → Showing
reading q w = record { gone = w.gone; doubtful = λ p. w.doubtful p || not (nat_lt (w.shown p) q); shown = w.shown }

abbrev pub count : ℕ → (ℕ → Bool) → ℕ
count zero t = 0
count (suc k) t = count k t + cond (t k) 1 0

abbrev pub doubt : ℕ → Showing → ℕ → Bool
doubt m w p = not (w.gone (p / m)) && w.doubtful p

abbrev pub differs : ℕ → Showing → List ℕ → ℕ → Bool
differs m w xs p = not (w.gone (p / m)) && (not (w.doubtful p) && not (slice_index xs p == w.shown p))

abbrev pub silent : ℕ → Showing → (ℕ → Bool) → List ℕ → ℕ → Bool
silent m w wrong xs p = not (wrong (p / m)) && differs m w xs p

abbrev pub gone_strips : ℕ → Showing → ℕ
gone_strips n w = count n w.gone

abbrev pub doubtful_squares : ℕ → ℕ → Showing → ℕ
doubtful_squares m n w = count (n * m) (doubt m w)

abbrev pub changed_squares : ℕ → ℕ → Showing → List ℕ → ℕ
changed_squares m n w xs = count (n * m) (differs m w xs)

-- at most `limit` squares may be silent
pub record Fits (limit m n c : ℕ) (w : Showing) (xs : List ℕ) : Type 0 where
  pub wrong : ℕ → Bool
  pub not_gone : (j : ℕ) → j < n → wrong j ≡ true → w.gone j ≡ false
  pub strips : 2 * count n wrong + gone_strips n w < c
  pub squares : 2 * count (n * m) (silent m w wrong xs) + doubtful_squares m n w ≤ m
  pub few : count (n * m) (silent m w wrong xs) ≤ limit
