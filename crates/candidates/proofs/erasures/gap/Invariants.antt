use Rattle.std.proofs.Common.{◌≡◌}
use Rattle.correction.specs.Nearing.{gaps}
use Rattle.candidates.proofs.erasures.gap.Given as goal

abbrev pub invariant-loop-point : goal.invariant-loop-point
invariant-loop-point g l = l.product ≡ gaps g.F.Field.ops l.points l.x l.point-index
