use Rattle.std.proofs.Common.{◌≡◌, ℕ, ◌^◌, ◌<◌, get_or}
use Rattle.cardtext.specs.Numerals.{IsDigit, digits_value}
use Rattle.cardtext.proofs.number.parse_number.Given as goal

abbrev pub invariant-loop-byte : goal.invariant-loop-byte
invariant-loop-byte l =
    (l.number ≡ digits_value l.text l.byte-index) × (l.number < 2 ^ 64) × ((k : ℕ) → k < l.byte-index → IsDigit (get_or l.text k 0))
