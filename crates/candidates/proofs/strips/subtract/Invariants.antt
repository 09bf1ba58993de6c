use Rattle.std.proofs.Common.{◌≡◌, ℕ, ◌<◌, ◌≤◌, get_or}
use Rattle.laws.specs.Ops.{less}
use Rattle.candidates.proofs.strips.subtract.Given as goal

abbrev pub invariant-loop-p : goal.invariant-loop-p
invariant-loop-p g l = ((k : ℕ) → k < l.p → get_or l.array k 0 ≡ less g.F.Field.ops (get_or l.initial.array k 0) (get_or l.errors k 0))
    × ((k : ℕ) → l.p ≤ k → get_or l.array k 0 ≡ get_or l.initial.array k 0)
