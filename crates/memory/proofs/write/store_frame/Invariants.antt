use Rattle.std.proofs.Common.{◌≤◌}
use Rattle.std.specs.Iterator.Adapters.{enumerate_source, enumerate_count}
use Rattle.medium.specs.Memory.{Filled}
use Rattle.memory.specs.Shows.{strip_of}
use Rattle.memory.proofs.Chunks.{AtStrip}
use Rattle.memory.proofs.write.store_frame.Given as goal

abbrev pub invariant-loop-strip : goal.invariant-loop-strip
invariant-loop-strip g l =
    let t = l.counts in
    let p = g.L.Layout.plan in
    let s = enumerate_count l.strip-iterator in
    (s ≤ t.strips)
    × AtStrip t.squares s l.codes (enumerate_source l.strip-iterator)
    × Filled t.strips (p.width t.squares) l.frame s (strip_of p g.L.Layout.Holds t l.frame l.codes) l.initial.bytes l.bytes
