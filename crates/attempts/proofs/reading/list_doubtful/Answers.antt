use Rattle.std.proofs.Common.{◌≡◌, ◌*◌, ◌<◌, length, get_or, set, sym, ap, ◌∙◌, inl, inr, arith, rules, tests, get_or-set_same, get_or-set_other}
use Rattle.std.proofs.lemmas.Bool.{cases_eq}
use Rattle.std.proofs.lemmas.List.{ext_get_or, length_push}
use Rattle.std.proofs.lemmas.List.FromFn.{length-enumerate_from}
use Rattle.std.proofs.lemmas.Iterator.{YieldsList-from_range}
use Rattle.std.proofs.lemmas.Iterator.Consumers.{YieldsList-from_filter, YieldsList-from_enumerate, YieldsList-at, YieldsList-turn, YieldsList-end}
use Rattle.algebra.specs.Showings.{doubt}
use Rattle.fitting.specs.Reading.{showing_of}
use Rattle.attempts.specs.Shown.{doubtful_list}
use Rattle.attempts.proofs.Ranks.{length-doubtful_list, numbered}
use Rattle.attempts.proofs.reading.list_doubtful.Goals as goal

turn : (c : goal.In-Some) → let xs = doubtful_list c.args.reading.now.geometry.squares c.args.reading.now.geometry.strips (showing_of c.args.reading.now) in
    (length c.loop-rank.yielded < length xs) × (c.in-Some.rank ≡ length c.loop-rank.yielded) × (c.in-Some.square ≡ get_or xs (length c.loop-rank.yielded) 0)
turn c =
    let m = c.args.reading.now.geometry.squares in
    let n = c.args.reading.now.geometry.strips in
    let w = showing_of c.args.reading.now in
    let size : c.frame_size-size.result ≡ n * m = rw c.geometry.ensures at c.frame_size-size.ensures in
    numbered (doubtful_list m n w) (length c.loop-rank.yielded) c.in-Some.rank c.in-Some.square
    (YieldsList-turn (YieldsList-from_enumerate {s = c.into_iter-rank-iterator.result} (YieldsList-at (cc) (YieldsList-from_filter {s = c.filter-doubtful.result} _ (doubt m w)
    (YieldsList-from_range 0 c.frame_size-size.result (n * m) c.filter-doubtful.ensures.source (omega arith)) c.filter-doubtful.ensures.closure (λ x r q k. search (rules, tests)))) (cc))
    c.loop-rank.yielded c.loop-rank.rank-iterator c.loop-rank.yielded_by c.next.result c.next.new.self (c.in-Some.rank, c.in-Some.square) c.in-Some.is c.next.ensures.steps)

pub bounds-squares-rank : goal.bounds-squares-rank
bounds-squares-rank c =
    let t = turn c in
    omega (arith, c.requires, c.loop-rank.auto.squares, length-doubtful_list c.args.reading.now.geometry.squares c.args.reading.now.geometry.strips (showing_of c.args.reading.now))

pub loop-rank-preserved : goal.loop-rank-preserved
loop-rank-preserved c =
    let xs = doubtful_list c.args.reading.now.geometry.squares c.args.reading.now.geometry.strips (showing_of c.args.reading.now) in
    let squares = c.loop-rank.squares in
    let rank = c.in-Some.rank in
    let square = c.in-Some.square in
    let t = turn c in
    let room : rank < length squares = bounds-squares-rank c in
    λ k l. elim (cases_eq k (length c.loop-rank.yielded)) [
      | inl q ↦ ap (λ i. get_or (set squares rank square) i 0) (q ∙ sym t.1) ∙ get_or-set_same squares rank square 0 room ∙ t.2 ∙ ap (λ i. get_or xs i 0) (sym q)
      | inr ne ↦ get_or-set_other squares rank k square 0 (λ e. ne (e ∙ t.1)) ∙ c.loop-rank.invariant k (omega (arith, length_push c.loop-rank.yielded (rank, square)))
    ]

pub returns : goal.returns
returns c =
    let m = c.args.reading.now.geometry.squares in
    let n = c.args.reading.now.geometry.strips in
    let w = showing_of c.args.reading.now in
    let xs = doubtful_list m n w in
    let size : c.frame_size-size.result ≡ n * m = rw c.geometry.ensures at c.frame_size-size.ensures in
    let all = (YieldsList-end (YieldsList-from_enumerate {s = c.into_iter-rank-iterator.result} (YieldsList-at (cc) (YieldsList-from_filter {s = c.filter-doubtful.result} _ (doubt m w)
    (YieldsList-from_range 0 c.frame_size-size.result (n * m) c.filter-doubtful.ensures.source (omega arith)) c.filter-doubtful.ensures.closure (λ x r q k. search (rules, tests)))) (cc))
    c.loop-rank.yielded c.loop-rank.rank-iterator c.loop-rank.yielded_by c.next.result c.next.new.self c.in-None.is c.next.ensures.steps).1 in
    let long : length c.loop-rank.yielded ≡ length xs = all ∙ length-enumerate_from 0 xs in
    let same : length c.loop-rank.squares ≡ length xs = c.loop-rank.auto.squares ∙ c.requires ∙ sym (length-doubtful_list m n w) in
    ext_get_or 0 c.loop-rank.squares xs same (λ k l. c.loop-rank.invariant k (omega arith))
