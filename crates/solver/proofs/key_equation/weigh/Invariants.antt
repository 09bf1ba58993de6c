use Rattle.std.proofs.Common.{◌≡◌, length}
use Rattle.solver.specs.Sums.{weighed}
use Rattle.solver.proofs.key_equation.weigh.Given as goal

abbrev pub invariant-loop-w : goal.invariant-loop-w
invariant-loop-w g l = l.all ≡ weighed g.F.Field.ops (length l.yielded) l.ws l.xs 0
