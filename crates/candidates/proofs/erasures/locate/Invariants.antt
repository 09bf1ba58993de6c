use Rattle.std.proofs.Common.{◌≡◌, ℕ, ◌<◌, get_or}
use Rattle.algebra.specs.Frames.{square_locator}
use Rattle.candidates.proofs.erasures.locate.Given as goal

abbrev pub invariant-loop-i : goal.invariant-loop-i
invariant-loop-i g l = (k : ℕ) → k < l.i → get_or l.points k 0 ≡ square_locator g.F.Field.ops (get_or l.squares k 0)
