use Rattle.std.proofs.Common.{◌≡◌, not, nat_eq, count_by, ◌∙◌, rules}
use Rattle.fitting.proofs.Chains.{count_by-count}
use Rattle.fitting.proofs.counts.count_marked.Goals as goal

pub returns : goal.returns
returns c =
    let e : c.count.result ≡ count_by (λ x. not (nat_eq x 0)) c.args.marks.now = search rules in
    e ∙ count_by-count (λ x. not (nat_eq x 0)) 0 c.args.marks.now
