use Rattle.std.proofs.Common.{◌≡◌}
use Rattle.std.specs.Iterator.Adapters.{enumerate_source, enumerate_count}
use Rattle.std.specs.Slice.Iter.{chunks_exact_rest, chunks_exact_size}
use Rattle.cardtext.proofs.Strips.{Written}
use Rattle.cardtext.proofs.text.write_text.Given as goal

abbrev pub invariant-loop-j : goal.invariant-loop-j
invariant-loop-j l =
    (chunks_exact_size (enumerate_source l.j-iterator) ≡ l.geometry.squares)
    × Written l.geometry.squares l.geometry.strips (enumerate_count l.j-iterator) l.squares (chunks_exact_rest (enumerate_source l.j-iterator)) l.initial.out l.out
