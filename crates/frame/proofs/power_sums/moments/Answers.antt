use Rattle.std.proofs.Common.{length, get_or, ap, ◌∙◌, add-one, arith}
use Rattle.laws.specs.Ops.{power}
use Rattle.solver.specs.Sums.{moment}
use Rattle.solver.proofs.Parts.{sum_cong}
use Rattle.frame.proofs.Filling.{set_before}
use Rattle.frame.proofs.Factors.{raise}
use Rattle.frame.proofs.power_sums.moments.Goals as goal

pub loop-sum-preserved : goal.loop-sum-preserved
loop-sum-preserved g c =
    let F = g.F.Field.ops in
    let L = g.met.F.Field.lawful in
    let inv = c.loop-sum.invariant in
    let h = c.loop-sum.sum-index in
    let points = c.args.points.now in
    let weights = c.args.weights.now in (
      λ t l. rw (add-one h) (c.turn.ensures.raised t l ∙ ap (λ z. F.mul z (get_or points t 0)) (inv.0 t l)
          ∙ raise F L (get_or weights t 0) (get_or points t 0) h (c.requires.weights t (omega (arith, c.requires.size))) (c.requires.points t l)),
      set_before (moment F points weights) c.loop-sum.out h c.turn.result (omega arith)
          (c.turn.ensures.total ∙ sum_cong F (length points) (λ t. get_or c.loop-sum.weights t 0) (λ t. F.mul (get_or weights t 0) (power F (get_or points t 0) h)) inv.0) inv.1,
    )
