use Rattle.std.proofs.Common.{◌≡◌, ◌*◌}
use Rattle.reel.proofs.Notes.{Noting}
use Rattle.reel.proofs.sight.Sight.of.Given as goal

abbrev pub invariant-loop-place : goal.invariant-loop-place
invariant-loop-place g l =
    let shows = g.M.Medium.shows in
    (shows l.medium ≡ shows l.initial.medium)
    × (l.sight.strips ≡ l.strips)
    × (l.sight.size ≡ l.strips * l.squares)
    × Noting (shows l.initial.medium) l.frame l.squares l.sight.codes l.sight.strip_marks l.sight.square_marks l.place
