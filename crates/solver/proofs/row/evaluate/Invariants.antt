use Rattle.std.proofs.Common.{◌≡◌, ◌-◌, length}
use Rattle.solver.specs.Sums.{value}
use Rattle.solver.proofs.row.evaluate.Given as goal

abbrev pub invariant-loop-w : goal.invariant-loop-w
invariant-loop-w g l = l.all ≡ value g.F.Field.ops l.ws l.x (length l.ws - length l.yielded) (length l.yielded)
