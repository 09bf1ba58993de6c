use Rattle.std.proofs.Common.{◌≡◌, ℕ, ◌<◌, length, get_or}
use Rattle.laws.specs.Ops.{power}
use Rattle.solver.specs.Sums.{moment}
use Rattle.frame.proofs.power_sums.moments.Given as goal

-- each weight has its point as a factor as often as sums were taken
abbrev pub invariant-loop-sum : goal.invariant-loop-sum
invariant-loop-sum g l = let F = g.F.Field.ops in
    ((t : ℕ) → t < length l.points → get_or l.weights t 0 ≡ F.mul (get_or l.initial.weights t 0) (power F (get_or l.points t 0) l.sum-index))
    × ((k : ℕ) → k < l.sum-index → get_or l.out k 0 ≡ moment F l.points l.initial.weights k)
