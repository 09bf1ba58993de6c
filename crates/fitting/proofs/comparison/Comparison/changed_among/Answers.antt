use Rattle.std.proofs.Common.{◌-◌, refl, rules, tests}
use Rattle.algebra.specs.Showings.{differs}
use Rattle.fitting.specs.Reading.{showing_of}
use Rattle.fitting.proofs.Chains.{counts_range}
use Rattle.fitting.proofs.comparison.Comparison.changed_among.Goals as goal

pub returns : goal.returns
returns c =
    let p = differs c.args.self.now.reading.geometry.squares (showing_of c.args.self.now.reading) c.args.self.now.frame.now in
    counts_range _ c.filter.result p c.count.result c.count.ensures.ran c.filter.ensures.closure (λ x r q k. search (rules, tests)) c.args.squares.start c.args.squares.end (c.args.squares.end - c.args.squares.start) c.filter.ensures.source refl
