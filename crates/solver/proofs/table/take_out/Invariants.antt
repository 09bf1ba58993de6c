use Rattle.std.proofs.Common.{◌≡◌}
use Rattle.laws.specs.Ops.{power}
use Rattle.solver.specs.Sums.{Taken}
use Rattle.solver.proofs.table.take_out.Given as goal

abbrev pub invariant-loop-h : goal.invariant-loop-h
invariant-loop-h g l = (l.p ≡ power g.F.Field.ops l.b l.h) × Taken g.F.Field.ops l.x l.a l.b l.c l.h l.initial.table l.table
