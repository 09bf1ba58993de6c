use Rattle.std.proofs.Common.{◌≤◌}
use Rattle.vectors.proofs.text.read_symbols.Given as goal

abbrev pub invariant-loop-place : goal.invariant-loop-place
invariant-loop-place l = l.count ≤ l.place-index
