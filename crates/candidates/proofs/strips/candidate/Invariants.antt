use Rattle.std.proofs.Common.{Bool, List, ℕ, drop}
use Rattle.candidates.specs.Chosen.{NearAt, HeldAt}
use Rattle.candidates.proofs.strips.candidate.Given as goal

abbrev pub invariant-loop-k : goal.invariant-loop-k
invariant-loop-k g l = HeldAt g.F.Field.ops l.site.geometry.now l.array l.table
    × ((wrong : ℕ → Bool) (ys : List ℕ) → NearAt g.F.Field.ops l.site.geometry.now l.site.gone.now wrong l.squares l.initial.array ys
    → NearAt g.F.Field.ops l.site.geometry.now l.site.gone.now wrong (drop l.k l.squares) l.array ys)
