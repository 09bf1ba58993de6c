-- Numbers in decimal digits.
--   IsDigit        a byte is one of 0 to 9
--   digits_value   the number that the first k digits of a text write
--   Numeral        a text of digits, one at least, that writes a number of 64 bits
--   Parses         the number that a text writes, if it is a numeral
-- Assumes nothing.
use Rattle.std.specs.Prelude.{◌≡◌, ℕ, zero, suc, ◌+◌, ◌-◌, ◌*◌, ◌^◌, ◌<◌, ◌≤◌, List, length, Option, MatchOption, slice_index}

abbrev pub IsDigit : ℕ → Type 0
IsDigit b = (48 ≤ b) × (b ≤ 57)

abbrev pub digits_value : List ℕ → ℕ → ℕ
digits_value xs zero = 0
digits_value xs (suc k) = digits_value xs k * 10 + (slice_index xs k - 48)

pub record Numeral (xs : List ℕ) : Type 0 where
  pub some : 0 < length xs
  pub digits : (i : ℕ) → i < length xs → IsDigit (slice_index xs i)
  pub fits : digits_value xs (length xs) < 2 ^ 64

abbrev pub Parses : List ℕ → Option ℕ → Type 0
Parses xs r = MatchOption r (Numeral xs → ⊥) (λ v. Numeral xs × (v ≡ digits_value xs (length xs)))
