use Rattle.std.proofs.Common.{sym, ◌∙◌, inl, inr, arith}
use Rattle.fitting.specs.Marks.{silent_limit}
use Rattle.fitting.specs.Reading.{showing_of}
use Rattle.attempts.proofs.Ranks.{list_doubted}
use Rattle.attempts.proofs.Noting.{doubted_chosen, answered_early, answered_late}
use Rattle.attempts.proofs.search.search.Goals as goal
use Rattle.attempts.proofs.search.search.Goals.{then-is_some-via-then-is_some, then-is_some-via-else-is_some+then-squares-start-lt2}

pub attempt-found-requires : goal.attempt-found-requires
attempt-found-requires g c =
    let start = c.args.start.now in
    let geo = start.reading.now.geometry in
    doubted_chosen geo.squares geo.strips (showing_of start.reading.now) start.doubtful.now (list_doubted geo.squares geo.strips (showing_of start.reading.now) start.doubtful.now start.prepared.doubted) start.few

pub returns-then-is_some : goal.returns-then-is_some
returns-then-is_some g c =
    let start = c.args.start.now in
    let geo = start.reading.now.geometry in
    answered_early g.F.Field.ops silent_limit (omega arith) geo.squares geo.strips geo.checks (showing_of start.reading.now) start.base.now start.prepared.read start.doubtful.now (list_doubted geo.squares geo.strips (showing_of start.reading.now) start.doubtful.now start.prepared.doubted)
    c.attempt-found.result c.attempt-found.ensures
    (elim c.then-is_some.branch [
      | then-is_some-via-then-is_some t ↦ inl (sym c.is_some.ensures ∙ t.if-is_some.true)
      | then-is_some-via-else-is_some+then-squares-start-lt2 t ↦ inr (omega (arith, rw t.geometry.ensures at t.squares.ensures, t.if-squares-start-lt2.true, start.few))
    ])

pub returns : goal.returns
returns g c =
    let start = c.args.start.now in
    let geo = start.reading.now.geometry in
    answered_late g.F.Field.ops silent_limit (omega arith) geo.squares geo.strips geo.checks (showing_of start.reading.now) start.base.now start.prepared.read start.doubtful.now (list_doubted geo.squares geo.strips (showing_of start.reading.now) start.doubtful.now start.prepared.doubted)
    c.attempt-found.result c.attempt-found.ensures (sym c.is_some.ensures ∙ c.if-is_some.false)
    c.search_silent.result c.search_silent.ensures
