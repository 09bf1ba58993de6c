use Rattle.std.proofs.Common.{ℕ, Bool, eqb, ap, ◌∙◌, rules, tests}
use Rattle.geometry.specs.declared.Geometry.{Geometry}
use Rattle.algebra.specs.Showings.{count}
use Rattle.fitting.specs.Wrong.{changes}
use Rattle.fitting.specs.Reading.{showing_of}
use Rattle.fitting.proofs.Chains.{counts_below}
use Rattle.fitting.proofs.comparison.Comparison.strips_with.Goals as goal

pub returns : goal.returns
returns c =
    let p : ℕ → Bool = λ j. eqb (changes c.args.self.now.reading.geometry.squares (showing_of c.args.self.now.reading) c.args.self.now.frame.now j) c.args.changed in
    counts_below _ c.filter.result p c.count.result c.count.ensures.ran c.filter.ensures.closure (λ x r q k. search (rules, tests)) c.strips.result c.filter.ensures.source
    ∙ ap (λ z. count z p) (c.strips.ensures ∙ ap (λ (g : Geometry). g.strips) c.geometry.ensures)
