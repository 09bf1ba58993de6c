use Rattle.std.proofs.Common.{◌≡◌, ℕ, None, sym, ap, ◌∙◌, subst, inl, inr, arith}
use Rattle.std.proofs.lemmas.Option.{MatchOption-at_none}
use Rattle.std.proofs.lemmas.Bool.{cases_eq, true≢false}
use Rattle.fitting.specs.Marks.{silent_limit}
use Rattle.fitting.specs.Reading.{showing_of}
use Rattle.correction.specs.Tries.{clear, Missed}
use Rattle.attempts.specs.Attempts.{HitBy}
use Rattle.attempts.proofs.Noting.{none_of}
use Rattle.attempts.proofs.search.search_silent.Goals as goal
use Rattle.attempts.proofs.search.search_silent.Goals.{then-is_clear+else-is_some, else-is_clear}

pub search-preserved : goal.search-preserved
search-preserved g c =
    let F = g.F.Field.ops in
    let geo = c.args.start.now.reading.now.geometry in
    let w = showing_of c.args.start.now.reading.now in
    let s = c.search.square in
    let base = c.args.start.now.base.now in
    elim c.if-is_clear.branch [
      | then-is_clear+else-is_some t ↦ (let none : t.try_square-found.result ≡ None = none_of t.try_square-found.result (sym t.is_some.ensures ∙ t.if-is_some.false) in (
        t.found-is ∙ none,
        λ p l e. elim (cases_eq p s) [
          | inl q ↦ subst (λ (z : ℕ). Missed F silent_limit geo.squares geo.strips geo.checks w base z) (sym q)
              (MatchOption-at_none (Missed F silent_limit geo.squares geo.strips geo.checks w base s) (HitBy F silent_limit geo.squares geo.strips geo.checks w) none t.try_square-found.ensures)
          | inr ne ↦ c.search.invariant.1 p (omega arith) e
        ],
      ))
      | else-is_clear t ↦ (
        t.found-is ∙ c.search.invariant.0,
        λ p l e. elim (cases_eq p s) [
          | inl q ↦ absurd (true≢false (sym e ∙ ap (clear geo.squares w) q ∙ sym c.is_clear.ensures ∙ t.if-is_clear.false))
          | inr ne ↦ c.search.invariant.1 p (omega arith) e
        ],
      )
    ]
