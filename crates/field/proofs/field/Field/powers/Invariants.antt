use Rattle.std.proofs.Common.{◌≡◌, ℕ, ◌<◌, get_or}
use Rattle.laws.specs.Ops.{power as power_of}
use Rattle.field.proofs.field.Field.powers.Given as goal

abbrev pub invariant-loop-power : goal.invariant-loop-power
invariant-loop-power g l = let F = g.Self.Field.ops in
    (l.last ≡ power_of F F.generator l.power-index) × ((k : ℕ) → k < l.power-index → get_or l.power-items k 0 ≡ power_of F F.generator k)
