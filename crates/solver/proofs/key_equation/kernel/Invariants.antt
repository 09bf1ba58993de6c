use Rattle.std.proofs.Common.{◌+◌, ◌-◌, ◌*◌}
use Rattle.solver.proofs.Kernels.{Found}
use Rattle.solver.proofs.key_equation.kernel.Given as goal

abbrev pub invariant-loop-r : goal.invariant-loop-r
invariant-loop-r g l = Found g.F.Field.ops g.met.F.Field.lawful l.t l.l l.r l.values l.ws l.gs l.b

abbrev pub decreases-loop-r : goal.decreases-loop-r
decreases-loop-r g l = 2 * l.t - (l.l + l.r)
