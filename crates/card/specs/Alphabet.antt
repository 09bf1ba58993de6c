-- The alphabet of a card: 37 characters, and the code of each.
--   value_of       the code of a byte, if it is one of 0 to 9 (0 to 9), A to Z (10 to 35) or * (36)
--   letter         the character of a code below 37
--   character_of   the character of a code, if it is below 37
--   is_letter      whether a byte is in the alphabet
--   Stands         the two are inverse to each other
-- Assumes nothing.
use Rattle.std.specs.Prelude.{◌≡◌, ℕ, ◌+◌, ◌-◌, ◌<◌, Bool, cond, ◌&&◌, is_some, Some, None, Option, ◌==◌, nat_le, nat_lt}

abbrev pub value_of : ℕ → Option ℕ
value_of b = cond (nat_le 48 b && nat_le b 57) (Some (b - 48)) (cond (nat_le 65 b && nat_le b 90) (Some (b - 65 + 10)) (cond (b == 42) (Some 36) None))

abbrev pub letter : ℕ → ℕ
letter c = cond (nat_lt c 10) (48 + c) (cond (nat_lt c 36) (55 + c) 42)

abbrev pub character_of : ℕ → Option ℕ
character_of c = cond (nat_lt c 37) (Some (letter c)) None

abbrev pub is_letter : ℕ → Bool
is_letter b = is_some (value_of b)

abbrev pub Stands : Type 0
Stands = ((c : ℕ) → c < 37 → value_of (letter c) ≡ Some c) × ((b c : ℕ) → value_of b ≡ Some c → (c < 37) × (letter c ≡ b))
