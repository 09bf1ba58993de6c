use Rattle.std.proofs.Common.{◌≡◌, ℕ, ◌/◌, ◌%◌, ◌<◌, get_or}
use Rattle.medium.specs.declared.medium.Look.TheVariants.{Clear}
use Rattle.medium.specs.Meaning.{look_at}
use Rattle.reel.proofs.writing.shows_codes.Given as goal

abbrev pub invariant-loop-place : goal.invariant-loop-place
invariant-loop-place g l =
    let shows = g.M.Medium.shows in
    (shows l.medium ≡ shows l.initial.medium)
    × ((k : ℕ) → k < l.place → look_at (shows l.initial.medium) l.frame (k / l.squares) (k % l.squares) ≡ Clear (get_or l.codes k 0))
