use Rattle.frame.specs.Tables.{FilledIn}
use Rattle.frame.proofs.table.solve_strips.Given as goal

abbrev pub invariant-loop-j : goal.invariant-loop-j
invariant-loop-j g l = FilledIn g.F.Field.ops l.m l.j l.locators l.initial.columns l.columns
