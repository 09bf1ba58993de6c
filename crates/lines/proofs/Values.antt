-- Figures read as what they write: digit by digit. Assumes nothing.
use Rattle.std.proofs.Common.{◌≡◌, ℕ, ◌+◌, ◌*◌, ◌/◌, ◌%◌, ◌<◌, ◌⊎◌, decimal, ap, ◌∙◌, inl, inr, arith}
use Rattle.std.specs.Int.{IsInRange}
use Rattle.std.specs.Char.{digit_value as digitValue}
use Rattle.std.proofs.lemmas.Fmt.{decimal_digit, decimal_is_IsNumeral, first_decimal}
use Rattle.std.proofs.lemmas.Bool.{cases_lt}
use Rattle.std.proofs.lemmas.Bool.Decides.{nat_tests}
use Rattle.lines.specs.Lines.{hex_digit}
use Rattle.lines.specs.Statements.{Decimals, Symbols}

pub decimals : Decimals
decimals n l =
    let reads = decimal_is_IsNumeral n l in
    (reads.0, reads.1, λ some. first_decimal n some l, λ none. ap decimal none ∙ decimal_digit 0 (omega arith))

digit_value : (d : ℕ) → d < 16 → digitValue (hex_digit d) ≡ d
digit_value d h = grind (arith, nat_tests)

digit_upper : (d : ℕ) → d < 16 → IsInRange 48 57 (hex_digit d) ⊎ IsInRange 65 70 (hex_digit d)
digit_upper d h = elim (cases_lt d 10) [ inl low ↦ inl (grind (arith, nat_tests)) | inr high ↦ inr (grind (arith, nat_tests)) ]

pub symbols : Symbols
symbols symbol l =
    let high : symbol / 16 < 16 = omega arith in
    let low : symbol % 16 < 16 = omega arith in
    let a = digit_value (symbol / 16) high in
    let b = digit_value (symbol % 16) low in
    (ap (λ x. (0 * 16 + x) * 16 + digitValue (hex_digit (symbol % 16))) a ∙ ap (λ y. (0 * 16 + symbol / 16) * 16 + y) b ∙ omega arith, digit_upper)
