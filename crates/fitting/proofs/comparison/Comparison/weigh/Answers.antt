use Rattle.std.proofs.Common.{◌+◌, ◌*◌, ◌<◌, ◌∙◌, ap, arith}
use Rattle.geometry.specs.declared.Geometry.{Geometry}
use Rattle.fitting.specs.Wrong.{changes}
use Rattle.fitting.specs.Reading.{showing_of}
use Rattle.fitting.proofs.Deciding.{weighed_fit, weighed_none, weighed_room, strips_few}
use Rattle.fitting.proofs.comparison.Comparison.weigh.Goals as goal

room : (c : goal.After-fewest_wrong-wrong) → 2 * c.fewest_wrong-wrong.result + c.count_gone-gone.result < 1000
room c =
    let v = c.args.self.now.reading in
    let g = v.geometry in
    weighed_room g.strips c.min-budget.result c.count_gone-gone.result c.fewest_wrong-wrong.result (showing_of v) (changes g.squares (showing_of v) c.args.self.now.frame.now)
    (strips_few g.squares g.strips g.order g.rule.0 g.rule.3 v.narrow) c.count_gone-gone.ensures c.fewest_wrong-wrong.ensures

pub overflow_mul-wrong : goal.overflow_mul-wrong
overflow_mul-wrong c = omega (arith, room c)

pub overflow_add-wrong : goal.overflow_add-wrong
overflow_add-wrong c = omega (arith, room c)

pub returns-then-wrong-gone : goal.returns-then-wrong-gone
returns-then-wrong-gone c =
    let v = c.args.self.now.reading in
    let g = v.geometry in
    weighed_none g.squares g.strips (showing_of v) c.args.self.now.frame.now
    c.args.limit g.checks c.count_gone-gone.result c.count_doubtful-doubtful.result c.squares-squares.result c.min-budget.result c.fewest_wrong-wrong.result
    c.count_gone-gone.ensures c.count_doubtful-doubtful.ensures (c.squares-squares.ensures ∙ ap (λ (z : Geometry). z.squares) c.geometry-geometry.ensures) (omega arith) c.min-budget.ensures c.fewest_wrong-wrong.ensures
    (omega (arith, ap (λ (z : Geometry). z.checks) c.geometry-geometry.ensures))

pub returns : goal.returns
returns c =
    let v = c.args.self.now.reading in
    let g = v.geometry in (
      record { gone = c.count_gone-gone.ensures; doubtful = c.count_doubtful-doubtful.ensures; changed = c.count_changed-changed.ensures },
      weighed_fit g.squares g.strips (showing_of v) c.args.self.now.frame.now
          c.args.limit g.checks c.count_gone-gone.result c.count_doubtful-doubtful.result c.squares-squares.result c.min-budget.result c.fewest_wrong-wrong.result
          c.count_gone-gone.ensures c.count_doubtful-doubtful.ensures (c.squares-squares.ensures ∙ ap (λ (z : Geometry). z.squares) c.geometry-geometry.ensures) (omega arith) c.min-budget.ensures c.fewest_wrong-wrong.ensures
          (omega (arith, ap (λ (z : Geometry). z.checks) c.geometry-geometry.ensures)),
    )
