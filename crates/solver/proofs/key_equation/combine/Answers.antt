use Rattle.std.proofs.Common.{arith}
use Rattle.solver.proofs.Fills.{fill_front}
use Rattle.solver.proofs.key_equation.combine.Goals as goal

pub returns : goal.returns
returns g c = fill_front _ c.args.n 128 c.loop-u.x-items c.loop-u.invariant.0 (λ u m. c.loop-u.invariant.1 u (omega arith))
