use Rattle.std.proofs.Common.{[], ◌∷◌, ◌++◌}
use Rattle.fitting.specs.Marks.{silent_limit}
use Rattle.fitting.specs.Reading.{showing_of}
use Rattle.attempts.proofs.Ranks.{list_doubted}
use Rattle.attempts.proofs.Noting.{tried_at, more_chosen, covers_more}
use Rattle.attempts.proofs.search.try_square.Goals as goal

pub attempt-requires : goal.attempt-requires
attempt-requires g c =
    let start = c.args.start.now in
    let geo = start.reading.now.geometry in
    rw c.add_square.ensures (more_chosen geo.squares geo.strips (showing_of start.reading.now) start.doubtful.now (list_doubted geo.squares geo.strips (showing_of start.reading.now) start.doubtful.now start.prepared.doubted) c.args.square c.requires.there c.requires.sure g.F.Field.ops c.requires.room)

pub returns : goal.returns
returns g c =
    let F = g.F.Field.ops in
    let start = c.args.start.now in
    let geo = start.reading.now.geometry in
    let w = showing_of start.reading.now in
    let squares = start.doubtful.now ++ c.args.square ∷ [] in
    tried_at F silent_limit geo.squares geo.strips geo.checks w start.base.now squares c.attempt.result (rw c.add_square.ensures at c.attempt.ensures) c.args.square
    (covers_more geo.squares geo.strips w start.doubtful.now (list_doubted geo.squares geo.strips (showing_of start.reading.now) start.doubtful.now start.prepared.doubted) c.args.square c.requires.there c.requires.sure F)
