-- What is proved of the figures in a line.
--   Decimals   decimal figures read as the number that they write, and only 0 begins with a 0
--   Symbols    two hexadecimal digits read as the symbol that they write, and each is 0 to 9 or A to F
-- Assumes nothing.
use Rattle.std.specs.Prelude.{◌≡◌, ℕ, ◌^◌, ◌<◌, ◌⊎◌, [], ◌∷◌, decimal, slice_index}
use Rattle.std.specs.Str.Parse.{IsNumeral, digits_value}
use Rattle.std.specs.Int.{IsInRange}
use Rattle.lines.specs.Lines.{hex, hex_digit}

abbrev pub Decimals : Type 0
Decimals = (n : ℕ) → n < 2 ^ 64
    → IsNumeral 10 (decimal n) × (digits_value 10 (decimal n) ≡ n) × (0 < n → 48 < slice_index (decimal n) 0) × (n ≡ 0 → decimal n ≡ 48 ∷ [])

abbrev pub Symbols : Type 0
Symbols = (symbol : ℕ) → symbol < 256
    → (digits_value 16 (hex symbol) ≡ symbol) × ((d : ℕ) → d < 16 → IsInRange 48 57 (hex_digit d) ⊎ IsInRange 65 70 (hex_digit d))
