use Rattle.frame.specs.Tables.{Columns}
use Rattle.frame.proofs.table.column_sums.Given as goal

abbrev pub invariant-loop-j : goal.invariant-loop-j
invariant-loop-j g l = Columns g.F.Field.ops l.m l.j l.locators l.array l.columns
