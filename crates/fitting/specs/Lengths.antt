-- The lengths of what is shown.
--   OfSize       codes and marks of the lengths that n strips of m squares have
--   Sized        the same, of as many strips as have a mark, and of some squares in each
--   no_reading   why what is shown is not read, in order: another field than the geometry's, and a wrong length
-- Assumes nothing.
use Rattle.std.specs.Prelude.{◌≡◌, ℕ, ◌*◌, ◌<◌, ◌≢◌, ◌⊎◌, List, [], ◌∷◌, length}
use Rattle.refusal.specs.declared.Refusal.TheVariants.{Unsuited, WrongLength}
use Rattle.refusal.specs.Outcome.{Cause}

pub record OfSize (m n : ℕ) (codes strips squares : List ℕ) : Type 0 where
  pub codes_size : length codes ≡ n * m
  pub strips_size : length strips ≡ n
  pub squares_size : length squares ≡ n * m

pub record Sized (m : ℕ) (codes strips squares : List ℕ) : Type 0 where
  pub some : 0 < m
  pub shown : length codes ≡ length strips * m
  pub marks : length squares ≡ length strips * m

abbrev pub no_reading : ℕ → ℕ → ℕ → ℕ → List ℕ → List ℕ → List ℕ → List Cause
no_reading order q m n codes strips squares =
    (Unsuited, order ≢ q)
    ∷ (WrongLength, (length codes ≢ n * m) ⊎ ((length strips ≢ n) ⊎ (length squares ≢ n * m)))
    ∷ []
