use Rattle.std.proofs.Common.{length, ap, ◌∙◌, rules, tests}
use Rattle.algebra.specs.Showings.{doubt, count, reading}
use Rattle.fitting.specs.Marks.{shown_by}
use Rattle.fitting.proofs.Chains.{counts_below}
use Rattle.fitting.proofs.counts.count_doubtful.Goals as goal

pub returns : goal.returns
returns c =
    let s = c.args.shown in
    let p = doubt c.args.squares (reading c.args.order (shown_by s.codes.now s.strip_marks.now s.square_marks.now)) in
    counts_below _ c.filter.result p c.count.result c.count.ensures.ran c.filter.ensures.closure (λ x r q k. search (rules, tests)) (length s.codes.now) c.filter.ensures.source
    ∙ ap (λ z. count z p) c.requires.shown
