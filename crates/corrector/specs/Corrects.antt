-- What correction answers.
--   no_correct   why it is refused, in order: another field than the geometry's, a wrong length, too many strips gone, too many
--                squares doubtful, and no record whose frame fits
--   Corrected    the buffer has the frame of a record, that frame fits, and the counts are exact
--   Corrects     a refusal exactly for its causes, which leaves the buffer as it was; or what is shown of the frame is corrected in it
-- Assumes nothing.
use Rattle.std.specs.Prelude.{◌≡◌, ℕ, ◌*◌, ◌<◌, ◌≤◌, ◌≢◌, ◌⊎◌, List, [], ◌∷◌, length, Ok, Result}
use Rattle.refusal.specs.declared.Refusal.{Refusal}
use Rattle.refusal.specs.declared.Refusal.TheVariants.{Unsuited, WrongLength, TooManyGone, TooManyDoubtful, NoFit}
use Rattle.refusal.specs.Outcome.{Cause, Outcome}
use Rattle.laws.specs.Ops.{Ops}
use Rattle.geometry.specs.declared.Geometry.{Geometry}
use Rattle.algebra.specs.Frames.{IsRecord, FrameOf}
use Rattle.algebra.specs.Showings.{Showing, gone_strips, doubtful_squares, Fits}
use Rattle.fitting.specs.declared.counts.Counts.{Counts}
use Rattle.fitting.specs.declared.reading.Shown.{Shown}
use Rattle.fitting.specs.Marks.{silent_limit}
use Rattle.fitting.specs.Decision.{Counted}
use Rattle.attempts.specs.Shown.{shows}

abbrev pub no_correct : Ops → ℕ → ℕ → ℕ → ℕ → Showing → List ℕ → List ℕ → List ℕ → List ℕ → List Cause
no_correct F order m n c w codes strips squares frame =
    (Unsuited, order ≢ F.order)
    ∷ (WrongLength, (length codes ≢ n * m) ⊎ ((length strips ≢ n) ⊎ ((length squares ≢ n * m) ⊎ (length frame ≢ n * m))))
    ∷ (TooManyGone, c ≤ gone_strips n w)
    ∷ (TooManyDoubtful, m < doubtful_squares m n w)
    ∷ (NoFit, ((symbols xs : List ℕ) → FrameOf F m n c symbols xs → Fits silent_limit m n c w xs → ⊥))
    ∷ []

pub record Corrected (F : Ops) (m n c : ℕ) (w : Showing) (xs : List ℕ) (r : Result Counts Refusal) : Type 0 where
  pub symbols : List ℕ
  pub is_record : IsRecord F m n c symbols
  pub frame : FrameOf F m n c symbols xs
  pub fits : Fits silent_limit m n c w xs
  pub counts : Counts
  pub counted : Counted m n w xs counts
  pub value : r ≡ Ok counts

abbrev pub Corrects : Ops → Geometry → Shown → List ℕ → List ℕ → Result Counts Refusal → Type 0
Corrects F g shown before after r =
    let codes = shown.codes.now in
    let strips = shown.strip_marks.now in
    let squares = shown.square_marks.now in
    let w = shows F.order codes strips squares in
    Outcome (no_correct F g.order g.squares g.strips g.checks w codes strips squares before) (after ≡ before) (Corrected F g.squares g.strips g.checks w after r) r
