use Rattle.std.proofs.Common.{◌≡◌, ℕ, ◌+◌, ◌*◌, ◌<◌, length, get_or}
use Rattle.solver.specs.Sums.{fold_of}
use Rattle.candidates.proofs.erasures.peel_rows.Given as goal

abbrev pub invariant-loop-i : goal.invariant-loop-i
invariant-loop-i g l = (k : ℕ) → k < l.i → get_or l.sums k 0 ≡ fold_of g.F.Field.ops l.points (λ h. get_or l.table (h * l.c + k) 0) (length l.points) 0
