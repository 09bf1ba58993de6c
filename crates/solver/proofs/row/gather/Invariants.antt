use Rattle.std.proofs.Common.{length}
use Rattle.solver.specs.Sums.{marked}
use Rattle.solver.proofs.Gathers.{Gathered}
use Rattle.solver.proofs.row.gather.Given as goal

abbrev pub invariant-loop-point : goal.invariant-loop-point
invariant-loop-point l = Gathered l.points (marked l.mask) (length l.yielded) l.k l.out
