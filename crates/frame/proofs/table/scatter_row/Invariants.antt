use Rattle.frame.specs.Tables.{Scattered}
use Rattle.frame.proofs.table.scatter_row.Given as goal

abbrev pub invariant-loop-j : goal.invariant-loop-j
invariant-loop-j l = Scattered l.m l.h l.j l.row l.initial.columns l.columns
