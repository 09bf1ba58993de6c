-- What a reading means.
--   showing_of    the showing that a reading sees
--   IsReadingOf   a reading, by a field of the geometry's order q, of what is shown
--   Reads         a refusal exactly for its causes; or a reading of what is shown
-- Assumes nothing.
use Rattle.std.specs.Prelude.{◌≡◌, ℕ, Result, MatchResult}
use Rattle.refusal.specs.declared.Refusal.{Refusal}
use Rattle.refusal.specs.Outcome.{Outcome}
use Rattle.geometry.specs.declared.Geometry.{Geometry}
use Rattle.algebra.specs.Showings.{Showing, reading}
use Rattle.fitting.specs.declared.reading.Shown.{Shown}
use Rattle.fitting.specs.declared.reading.Reading.{Reading}
use Rattle.fitting.specs.Marks.{shown_by}
use Rattle.fitting.specs.Lengths.{no_reading}

abbrev pub showing_of : Reading → Showing
showing_of r = reading r.geometry.order (shown_by r.shown.codes.now r.shown.strip_marks.now r.shown.square_marks.now)

pub record IsReadingOf (q : ℕ) (g : Geometry) (shown : Shown) (r : Reading) : Type 0 where
  pub order_is : r.geometry.order ≡ q
  pub geometry_is : r.geometry ≡ g
  pub shown_is : r.shown ≡ shown

abbrev pub Reads : ℕ → Geometry → Shown → Result Reading Refusal → Type 0
Reads q g shown r =
    Outcome (no_reading g.order q g.squares g.strips shown.codes.now shown.strip_marks.now shown.square_marks.now) Unit (MatchResult r (IsReadingOf q g shown) (λ _. ⊥)) r
