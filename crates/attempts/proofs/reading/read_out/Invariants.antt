use Rattle.std.proofs.Common.{◌≡◌, ℕ, ◌<◌, cond, get_or}
use Rattle.correction.specs.Tries.{clear}
use Rattle.attempts.specs.Shown.{shows}
use Rattle.attempts.proofs.reading.read_out.Given as goal

abbrev pub invariant-loop-square : goal.invariant-loop-square
invariant-loop-square l = (k : ℕ) → k < l.square → get_or l.base k 0 ≡ cond (clear l.m (shows l.order l.codes l.strip_marks l.square_marks) k) (get_or l.codes k 0) 0
