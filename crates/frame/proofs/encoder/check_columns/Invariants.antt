use Rattle.std.proofs.Common.{◌≡◌, ◌≤◌, length}
use Rattle.std.specs.Iterator.Adapters.{enumerate_source, enumerate_count}
use Rattle.frame.specs.Tables.{CheckColumns}
use Rattle.frame.proofs.Strips.{AtChunk}
use Rattle.frame.proofs.encoder.check_columns.Given as goal

abbrev pub invariant-loop-h : goal.invariant-loop-h
invariant-loop-h g l = let h = enumerate_count l.h-iterator in
    (length l.values ≡ length l.locators)
    × (h ≤ l.m)
    × AtChunk (length l.locators) h l.table (enumerate_source l.h-iterator)
    × CheckColumns g.F.Field.ops l.m h l.locators l.table l.columns
