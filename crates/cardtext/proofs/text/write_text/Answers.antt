use Rattle.std.proofs.Common.{◌*◌, ◌∙◌, ap₂, subst, arith}
use Rattle.cardtext.specs.Text.{Text, width, ending}
use Rattle.cardtext.proofs.Strips.{written_more, all_written}
use Rattle.cardtext.proofs.text.write_text.Goals as goal

pub loop-j-preserved : goal.loop-j-preserved
loop-j-preserved c =
    let g = c.args.geometry.now in
    let s = c.in-Some.ensures.steps in
    let inv = c.loop-j.invariant in
    let at = ap₂ (λ j m. j * width m) s.1 c.squares-width.ensures in (
      s.0.0 ∙ inv.0,
      written_more g.squares g.strips _ _ _ _ _ _ _ _ _ _ _ _ g.rule.0 c.requires.size (omega (arith, c.loop-j.auto.out)) inv.1 s.0.1.0 (s.0.1.1 ∙ inv.0) s.2 at (omega arith) (omega arith) (c.ending.ensures.value ∙ ap₂ ending c.strips.ensures s.1) c.write_strip.ensures.value,
    )

pub returns-clause-value : goal.returns-clause-value
returns-clause-value c =
    let g = c.args.geometry.now in
    let w = c.loop-j.invariant.1 in
    subst (Text g.squares g.strips c.args.squares.now c.loop-j.out) (all_written _ _ _ _ _ _ _ c.requires.size w (omega (arith, c.in-None.ensures.steps))) w.text
