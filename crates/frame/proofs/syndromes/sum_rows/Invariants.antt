use Rattle.frame.specs.Tables.{RowSums}
use Rattle.frame.proofs.syndromes.sum_rows.Given as goal

abbrev pub invariant-loop-h : goal.invariant-loop-h
invariant-loop-h g l = RowSums g.F.Field.ops l.m l.c l.h l.locators l.columns l.table
