use Rattle.std.proofs.Common.{◌≡◌, ℕ, ◌<◌, length, get_or}
use Rattle.solver.specs.Sums.{combined}
use Rattle.solver.proofs.key_equation.combine.Given as goal

abbrev pub invariant-loop-u : goal.invariant-loop-u
invariant-loop-u g l = (length l.x-items ≡ l.n) × ((k : ℕ) → k < l.u → get_or l.x-items k 0 ≡ combined g.F.Field.ops l.ka l.kb l.d l.xs l.ws k)
