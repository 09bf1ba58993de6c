-- What one attempt at a fitting frame answers.
--   Prepared   what every attempt starts from: marks, what was read and its check sums, and the doubtful squares
--   Hit        a frame that fits, and its counts
--   HitBy      a hit, by the frame at the front of a buffer
--   Tried      a hit; or no frame that fits is close, with whichever square more the list covers
--   Searched   a hit; or no frame that fits is close, with any clear square below a place more
--   Answered   a hit; or no frame fits
--   Summed     the check sums of what is read
--   Ready      the field is that of the geometry, and neither too many strips are gone nor too many squares doubtful
--   Settled    a hit in the buffer; or no frame fits, and the buffer is as it was
-- Assumes nothing.
use Rattle.std.specs.Prelude.{◌≡◌, ℕ, ◌*◌, ◌<◌, ◌≤◌, Bool, true, List, length, take, Option, MatchOption}
use Rattle.laws.specs.Ops.{Ops}
use Rattle.algebra.specs.Frames.{IsFrame}
use Rattle.algebra.specs.Showings.{Showing, gone_strips, doubtful_squares, Fits}
use Rattle.fitting.specs.declared.counts.Counts.{Counts}
use Rattle.fitting.specs.Decision.{Counted}
use Rattle.attempts.specs.declared.attempt.Fit.{Fit}
use Rattle.fitting.specs.declared.reading.Reading.{Reading}
use Rattle.fitting.specs.Reading.{showing_of}
use Rattle.frame.specs.Tables.{Sums}
use Rattle.correction.specs.Nearing.{Held}
use Rattle.fitting.specs.Marks.{silent_limit}
use Rattle.attempts.specs.Shown.{doubtful_list}
use Rattle.correction.specs.Tries.{clear, Readout, Masked, Covers, Missed}

pub record Prepared (F : Ops) (m n c : ℕ) (w : Showing) (gone : List Bool) (base checks doubtful : List ℕ) : Type 0 where
  pub mask : Masked n w gone
  pub read : Readout m n w base
  pub held : Held F m n c base checks
  pub doubted : doubtful ≡ doubtful_list m n w

pub record Hit (F : Ops) (limit m n c : ℕ) (w : Showing) (xs : List ℕ) (k : Counts) : Type 0 where
  pub frame : IsFrame F m n c xs
  pub fits : Fits limit m n c w xs
  pub counted : Counted m n w xs k

-- by the frame at the front of a buffer
abbrev pub HitBy : Ops → ℕ → ℕ → ℕ → ℕ → Showing → Fit → Type 0
HitBy F limit m n c w fit = Hit F limit m n c w (take (n * m) fit.frame) fit.counts

abbrev pub Tried : Ops → ℕ → ℕ → ℕ → ℕ → Showing → List ℕ → List ℕ → Option Fit → Type 0
Tried F limit m n c w base squares r = MatchOption r ((extra : ℕ) → Covers m n w extra squares → Missed F limit m n c w base extra) (HitBy F limit m n c w)

abbrev pub Answered : Ops → ℕ → ℕ → ℕ → ℕ → Showing → Option Fit → Type 0
Answered F limit m n c w r = MatchOption r ((ys : List ℕ) → IsFrame F m n c ys → Fits limit m n c w ys → ⊥) (HitBy F limit m n c w)

-- a hit; or no frame that fits is close, with any clear square below k more
abbrev pub Searched : Ops → ℕ → ℕ → ℕ → ℕ → Showing → List ℕ → ℕ → Option Fit → Type 0
Searched F limit m n c w base k r = MatchOption r ((p : ℕ) → p < k → clear m w p ≡ true → Missed F limit m n c w base p) (HitBy F limit m n c w)

pub record Summed (F : Ops) (m n c : ℕ) (w : Showing) (checks : List ℕ) : Type 0 where
  pub size : length checks ≡ m * c
  pub sums : (ys : List ℕ) → Readout m n w ys → Sums F m n c ys checks

pub record Ready (F : Ops) (r : Reading) : Type 0 where
  pub order_is : r.geometry.order ≡ F.order
  pub gone : gone_strips r.geometry.strips (showing_of r) < r.geometry.checks
  pub doubtful : doubtful_squares r.geometry.squares r.geometry.strips (showing_of r) ≤ r.geometry.squares

abbrev pub Settled : Ops → ℕ → ℕ → ℕ → Showing → List ℕ → List ℕ → Option Counts → Type 0
Settled F m n c w before after r =
    MatchOption r (((ys : List ℕ) → IsFrame F m n c ys → Fits silent_limit m n c w ys → ⊥) × (after ≡ before)) (Hit F silent_limit m n c w after)
