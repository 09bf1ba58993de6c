use Rattle.std.proofs.Common.{◌≡◌, ℕ, suc, ◌+◌, ◌<◌, ◌≤◌, length, get_or}
use Rattle.laws.specs.Ops.{less}
use Rattle.solver.proofs.vandermonde.peel.Given as goal

abbrev pub invariant-loop-x : goal.invariant-loop-x
invariant-loop-x g l = let F = g.F.Field.ops in
    (l.last ≡ get_or l.fn.values l.x-index 0)
    × ((k : ℕ) → k < l.x-index → get_or l.x-items k 0 ≡ less F (get_or l.fn.values (suc k) 0) (F.mul l.b (get_or l.fn.values k 0)))
    × ((k : ℕ) → l.x-index ≤ k → get_or l.x-items k 0 ≡ get_or l.fn.values (k + 1) 0)
    × (length l.x-items + 1 ≡ length l.fn.values)
