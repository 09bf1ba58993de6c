use Rattle.std.proofs.Common.{◌≡◌, ℕ, ◌<◌, ◌≤◌, get_or}
use Rattle.frame.proofs.encoder.negate.Given as goal

abbrev pub invariant-loop-sum : goal.invariant-loop-sum
invariant-loop-sum g l =
    ((k : ℕ) → k < l.sum-index → get_or l.sums k 0 ≡ g.F.Field.ops.neg (get_or l.initial.sums k 0))
    × ((k : ℕ) → l.sum-index ≤ k → get_or l.sums k 0 ≡ get_or l.initial.sums k 0)
