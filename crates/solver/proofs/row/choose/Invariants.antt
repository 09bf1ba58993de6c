use Rattle.std.proofs.Common.{ℕ, ◌<◌, length}
use Rattle.solver.specs.Sums.{Choice}
use Rattle.solver.proofs.row.choose.Given as goal

abbrev pub invariant-loop-j : goal.invariant-loop-j
invariant-loop-j g l = (i : ℕ) → i < l.j → Choice g.F.Field.ops l.points l.gone l.ws (length l.ws) l.mask i
