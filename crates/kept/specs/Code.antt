-- A code, as far as a reel needs to know it: which array is the frame of a record, and which frames fit what is shown.
--   Code      the order of its field; m squares in a strip, n strips in a frame, c of them checks; of a record and an array,
--             whether it is the record's frame; of what is shown and an array, whether it fits; and how many strips are gone,
--             squares doubtful, and clear squares other than the array has them
--   size      the symbols of a frame
--   room      the symbols of a record
--   counts    the three counts, as a call answers them
--   Fitting   an array is the frame of the record, and fits what is shown
--   Lawful    what a reel takes for granted of its code
-- Assumes nothing.
use Rattle.std.specs.Prelude.{◌≡◌, ℕ, ◌-◌, ◌*◌, ◌<◌, ◌≤◌, List, length, take}
use Rattle.refusal.specs.Codes.{Below}
use Rattle.algebra.specs.Showings.{Showing}
use Rattle.algebra.specs.Statements.{ShowsExactly}
use Rattle.kept.specs.Shows.{Agree}
use Rattle.fitting.specs.declared.counts.Counts.{Counts}

pub record Code : Type 1 where
  pub order : ℕ
  pub m : ℕ
  pub n : ℕ
  pub c : ℕ
  pub frame_of : List ℕ → List ℕ → Type 0
  pub fits : Showing → List ℕ → Type 0
  pub gone : Showing → ℕ
  pub doubtful : Showing → ℕ
  pub changed : Showing → List ℕ → ℕ

abbrev pub size : Code → ℕ
size K = K.n * K.m

abbrev pub room : Code → ℕ
room K = (K.n - K.c) * K.m

abbrev pub counts : Code → Showing → List ℕ → Counts
counts K seen xs = record { gone = K.gone seen; doubtful = K.doubtful seen; changed = K.changed seen xs }

pub record Fitting (K : Code) (seen : Showing) (rec xs : List ℕ) : Type 0 where
  pub frame : K.frame_of rec xs
  pub fit : K.fits seen xs

pub record Lawful (K : Code) : Type 0 where
  pub some_squares : 1 ≤ K.m
  pub record_long : (rec xs : List ℕ) → K.frame_of rec xs → length rec ≡ room K
  pub record_front : (rec xs : List ℕ) → K.frame_of rec xs → rec ≡ take (room K) xs
  pub frame_long : (rec xs : List ℕ) → K.frame_of rec xs → length xs ≡ size K
  pub frame_codes : (rec xs : List ℕ) → K.frame_of rec xs → Below K.order xs
  pub one_frame : (rec xs ys : List ℕ) → K.frame_of rec xs → K.frame_of rec ys → xs ≡ ys
  -- whatever is shown, at most one frame fits it
  pub one_fit : (seen : Showing) (rec sec xs ys : List ℕ) → Fitting K seen rec xs → Fitting K seen sec ys → xs ≡ ys
  -- and where one does, not too much is gone or doubtful
  pub fits_few : (seen : Showing) (rec xs : List ℕ) → Fitting K seen rec xs → (K.gone seen < K.c) × (K.doubtful seen ≤ K.m)
  -- only the strips and squares that there are count, and of a gone strip no square
  pub agree_gone : (v w : Showing) → Agree K.m K.n v w → K.gone v ≡ K.gone w
  pub agree_doubtful : (v w : Showing) → Agree K.m K.n v w → K.doubtful v ≡ K.doubtful w
  pub agree_changed : (v w : Showing) → Agree K.m K.n v w → (xs : List ℕ) → K.changed v xs ≡ K.changed w xs
  pub agree_fits : (v w : Showing) → Agree K.m K.n v w → (xs : List ℕ) → K.fits v xs → K.fits w xs
  -- a frame that is shown exactly fits
  pub exact : (seen : Showing) (rec xs : List ℕ) → K.frame_of rec xs → ShowsExactly K.m K.n seen xs → K.fits seen xs
