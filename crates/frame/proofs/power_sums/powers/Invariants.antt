use Rattle.std.proofs.Common.{◌≡◌, ℕ, ◌<◌, get_or}
use Rattle.laws.specs.Ops.{power}
use Rattle.frame.proofs.power_sums.powers.Given as goal

abbrev pub invariant-loop-power : goal.invariant-loop-power
invariant-loop-power g l = (l.p ≡ power g.F.Field.ops l.x l.power-index) × ((k : ℕ) → k < l.power-index → get_or l.out k 0 ≡ power g.F.Field.ops l.x k)
