use Rattle.solver.specs.Sums.{marked}
use Rattle.solver.proofs.Gathers.{Scattered}
use Rattle.solver.proofs.row.scatter.Given as goal

abbrev pub invariant-loop-j : goal.invariant-loop-j
invariant-loop-j l = Scattered l.values (marked l.mask) l.j l.k l.out
