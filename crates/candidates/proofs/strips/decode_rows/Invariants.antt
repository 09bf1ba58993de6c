use Rattle.std.proofs.Common.{◌≡◌, ◌≤◌, length}
use Rattle.std.specs.Iterator.Adapters.{enumerate_source, enumerate_count}
use Rattle.frame.proofs.Strips.{AtChunk}
use Rattle.correction.specs.Nearing.{Found}
use Rattle.candidates.proofs.strips.decode_rows.Given as goal

abbrev pub invariant-loop-h : goal.invariant-loop-h
invariant-loop-h g l = (length l.row ≡ l.n) × (enumerate_count l.h-iterator ≤ l.m)
    × AtChunk l.c (enumerate_count l.h-iterator) l.table (enumerate_source l.h-iterator)
    × Found g.F.Field.ops l.m l.c (enumerate_count l.h-iterator) l.strips l.site.gone.now l.table l.columns
