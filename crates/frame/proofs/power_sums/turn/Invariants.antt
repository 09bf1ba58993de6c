use Rattle.std.proofs.Common.{◌≡◌, ℕ, ◌<◌, ◌≤◌, get_or}
use Rattle.laws.specs.Ops.{sum}
use Rattle.frame.proofs.power_sums.turn.Given as goal

abbrev pub invariant-loop-t : goal.invariant-loop-t
invariant-loop-t g l = let F = g.F.Field.ops in
    (l.total ≡ sum F l.t (λ k. get_or l.initial.weights k 0))
    × ((k : ℕ) → k < l.t → get_or l.weights k 0 ≡ F.mul (get_or l.initial.weights k 0) (get_or l.points k 0))
    × ((k : ℕ) → l.t ≤ k → get_or l.weights k 0 ≡ get_or l.initial.weights k 0)
