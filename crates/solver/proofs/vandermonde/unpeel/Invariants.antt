use Rattle.std.proofs.Common.{◌≡◌, ℕ, ◌+◌, ◌<◌, ◌≤◌, length, get_or}
use Rattle.laws.specs.Ops.{sum}
use Rattle.solver.specs.Sums.{found}
use Rattle.solver.proofs.vandermonde.unpeel.Given as goal

abbrev pub invariant-loop-t : goal.invariant-loop-t
invariant-loop-t g l = let F = g.F.Field.ops in
    (l.all ≡ sum F l.t (found F l.points l.fn.values))
    × ((k : ℕ) → k < l.t → get_or l.x-items k 0 ≡ found F l.points l.fn.values k)
    × ((k : ℕ) → l.t ≤ k → get_or l.x-items k 0 ≡ get_or l.fn.values (k + 1) 0)
    × (length l.x-items + 1 ≡ length l.points)
