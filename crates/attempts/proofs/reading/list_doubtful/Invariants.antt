use Rattle.std.proofs.Common.{◌≡◌, ℕ, ◌<◌, length, get_or}
use Rattle.fitting.specs.Reading.{showing_of}
use Rattle.attempts.specs.Shown.{doubtful_list}
use Rattle.attempts.proofs.reading.list_doubtful.Given as goal

abbrev pub invariant-loop-rank : goal.invariant-loop-rank
invariant-loop-rank l = (k : ℕ) → k < length l.yielded → get_or l.squares k 0 ≡ get_or (doubtful_list l.reading.geometry.squares l.reading.geometry.strips (showing_of l.reading)) k 0
