use Rattle.std.proofs.Common.{length}
use Rattle.solver.proofs.Gathers.{Struck}
use Rattle.solver.proofs.row.strike.Given as goal

abbrev pub invariant-loop-point : goal.invariant-loop-point
invariant-loop-point g l = Struck g.F.Field.ops l.points l.gone l.initial.values (length l.yielded) l.k l.values
