use Rattle.std.proofs.Common.{◌≡◌, ℕ, ◌<◌, true, None}
use Rattle.fitting.specs.Marks.{silent_limit}
use Rattle.fitting.specs.Reading.{showing_of}
use Rattle.correction.specs.Tries.{clear, Missed}
use Rattle.attempts.proofs.search.search_silent.Given as goal

abbrev pub invariant-search : goal.invariant-search
invariant-search g l =
    let geo = l.start.reading.now.geometry in
    let w = showing_of l.start.reading.now in
    (l.found ≡ None) × ((p : ℕ) → p < l.square → clear geo.squares w p ≡ true → Missed g.F.Field.ops silent_limit geo.squares geo.strips geo.checks w l.start.base.now p)
