use Rattle.std.proofs.Common.{◌≡◌, ℕ, ◌+◌, ◌*◌, ◌<◌, ◌≤◌, length, get_or}
use Rattle.solver.specs.Sums.{fold_of}
use Rattle.solver.proofs.table.fold.Given as goal

abbrev pub invariant-loop-h : goal.invariant-loop-h
invariant-loop-h g l = (length l.work ≡ length l.points + 1) × ((k : ℕ) → k < l.h → get_or l.work k 0 ≡ get_or l.table (k * l.c + l.i) 0)

abbrev pub invariant-loop-k : goal.invariant-loop-k
invariant-loop-k g l =
    (length l.work ≡ length l.points + 1)
    × ((j : ℕ) → l.k + j ≤ length l.points → get_or l.work (l.k + j) 0 ≡ fold_of g.F.Field.ops l.points (λ h. get_or l.table (h * l.c + l.i) 0) l.k j)
