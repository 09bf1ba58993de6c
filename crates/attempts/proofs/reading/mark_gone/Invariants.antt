use Rattle.std.proofs.Common.{◌≡◌, ℕ, ◌<◌}
use Rattle.solver.specs.Sums.{marked}
use Rattle.fitting.specs.Reading.{showing_of}
use Rattle.attempts.proofs.reading.mark_gone.Given as goal

abbrev pub invariant-loop-strip : goal.invariant-loop-strip
invariant-loop-strip l = (k : ℕ) → k < l.strip → marked l.gone k ≡ (showing_of l.reading).gone k
