use Rattle.std.proofs.Common.{◌+◌, length, arith}
use Rattle.cardtext.specs.Numerals.{Numeral}
use Rattle.cardtext.proofs.Digits.{value_more, value_grows}
use Rattle.cardtext.proofs.number.parse_number.Goals as goal

pub returns-in_err-number : goal.returns-in_err-number
returns-in_err-number c =
    let xs = c.args.text.now in
    let i = c.loop-byte.byte-index in
    let refused : Numeral xs → ⊥ = λ z. c.in_err-number.ensures.value (z.digits i (omega arith)) (let g = value_grows xs (i + 1) (length xs) (omega arith) in let m = value_more xs i in omega (arith, z.fits, c.loop-byte.invariant.0)) in
    record { value = rw c.from_residual.ensures refused }
