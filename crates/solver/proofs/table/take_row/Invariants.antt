use Rattle.std.proofs.Common.{◌≡◌}
use Rattle.laws.specs.Ops.{power}
use Rattle.solver.specs.Sums.{TakenRow}
use Rattle.solver.proofs.table.take_row.Given as goal

abbrev pub invariant-loop-sum : goal.invariant-loop-sum
invariant-loop-sum g l = (l.p ≡ power g.F.Field.ops l.a l.sum-index) × TakenRow g.F.Field.ops l.x l.a l.sum-index l.initial.row l.row
