use Rattle.std.proofs.Common.{◌≡◌, ℕ, ◌<◌, get_or, Some}
use Rattle.card.specs.Alphabet.{value_of}
use Rattle.cardtext.proofs.text.read_symbols.Given as goal

abbrev pub invariant-loop-i : goal.invariant-loop-i
invariant-loop-i l = (k : ℕ) → k < l.i → value_of (get_or l.line k 0) ≡ Some (get_or l.symbols k 0)
