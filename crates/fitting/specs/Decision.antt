-- Whether a frame fits what is shown, and with which counts.
--   Counted    the counts of gone strips, doubtful squares and changed squares, each exactly
--   Weighed    the counts if the array fits what is shown, and nothing exactly if it does not
--   no_fits    why the question is refused, in order: another field than the geometry's, and a wrong length
--   Decided    a refusal exactly for its causes; or the weighing, under the silent limit, of what a field of order q reads
-- Assumes nothing.
use Rattle.std.specs.Prelude.{◌≡◌, ℕ, ◌*◌, ◌≢◌, ◌⊎◌, List, [], ◌∷◌, length, Option, MatchOption, Result, MatchResult}
use Rattle.refusal.specs.declared.Refusal.{Refusal}
use Rattle.refusal.specs.declared.Refusal.TheVariants.{Unsuited, WrongLength}
use Rattle.refusal.specs.Outcome.{Cause, Outcome}
use Rattle.geometry.specs.declared.Geometry.{Geometry}
use Rattle.algebra.specs.Showings.{Showing, gone_strips, doubtful_squares, changed_squares, Fits, reading}
use Rattle.fitting.specs.declared.counts.Counts.{Counts}
use Rattle.fitting.specs.declared.reading.Shown.{Shown}
use Rattle.fitting.specs.Marks.{shown_by, silent_limit}

pub record Counted (m n : ℕ) (w : Showing) (xs : List ℕ) (r : Counts) : Type 0 where
  pub gone : r.gone ≡ gone_strips n w
  pub doubtful : r.doubtful ≡ doubtful_squares m n w
  pub changed : r.changed ≡ changed_squares m n w xs

abbrev pub Weighed : ℕ → ℕ → ℕ → ℕ → Showing → List ℕ → Option Counts → Type 0
Weighed limit m n c w xs r = MatchOption r (Fits limit m n c w xs → ⊥) (λ k. Counted m n w xs k × Fits limit m n c w xs)

abbrev pub no_fits : ℕ → ℕ → ℕ → ℕ → List ℕ → List ℕ → List ℕ → List ℕ → List Cause
no_fits order q m n codes strips squares frame =
    (Unsuited, order ≢ q)
    ∷ (WrongLength, (length codes ≢ n * m) ⊎ ((length strips ≢ n) ⊎ ((length squares ≢ n * m) ⊎ (length frame ≢ n * m))))
    ∷ []

abbrev pub Decided : ℕ → Geometry → Shown → List ℕ → Result (Option Counts) Refusal → Type 0
Decided q g shown frame r =
    let codes = shown.codes.now in
    let strips = shown.strip_marks.now in
    let squares = shown.square_marks.now in
    Outcome (no_fits g.order q g.squares g.strips codes strips squares frame) Unit
    (MatchResult r (Weighed silent_limit g.squares g.strips g.checks (reading q (shown_by codes strips squares)) frame) (λ _. ⊥)) r
