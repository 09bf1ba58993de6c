use Rattle.std.proofs.Common.{sym, refl, ◌∙◌, arith}
use Rattle.std.proofs.lemmas.Bool.{eqb-true, eq-eqb, true≢false}
use Rattle.solver.proofs.Gathers.{choice_more}
use Rattle.solver.proofs.row.choose.Goals as goal
use Rattle.solver.proofs.row.choose.Goals.{then-gone-j, else-gone-j}

pub loop-j-preserved : goal.loop-j-preserved
loop-j-preserved g c =
    let more = choice_more g.F.Field.ops c.args.points.now c.args.gone.now c.args.ws.now _ c.loop-j.mask _ c.loop-j.j c.if-gone-j.mark (omega arith) refl c.loop-j.invariant in
    elim c.if-gone-j.branch [
      | then-gone-j w ↦ more (λ e. absurd (true≢false (sym w.if-gone-j.true ∙ sym w.mark-is ∙ e))) (λ e z. absurd (true≢false (sym w.if-gone-j.true ∙ z)))
      | else-gone-j w ↦ more (λ e. (w.if-gone-j.false, λ z. absurd (true≢false (sym (eq-eqb _ 0 (w.evaluate.ensures ∙ z)) ∙ sym w.mark-is ∙ e)))) (λ e z. sym w.evaluate.ensures ∙ eqb-true _ 0 (sym w.mark-is ∙ e))
    ]
