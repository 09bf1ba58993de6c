-- What reading a showing answers, over a field, with m squares in a strip, n strips and c check strips.
--   Reads             the frame of the record fits, and these are the counts
--   TooManyGone       more strips are gone than the check strips can make up for
--   TooManyDoubtful   not too many are gone, and more squares are doubtful than a strip has
--   FitsNone          neither too many strips are gone nor too many squares doubtful, and no record's frame fits
-- Assumes nothing.
use Rattle.std.specs.Prelude.{◌≡◌, List, ℕ, ◌<◌, ◌≤◌}
use Rattle.laws.specs.Ops.{Ops}
use Rattle.algebra.specs.Frames.{FrameOf}
use Rattle.algebra.specs.Showings.{Showing, reading, gone_strips, doubtful_squares, changed_squares, Fits}
use Rattle.fitting.specs.Marks.{silent_limit}

pub record Reads (F : Ops) (m n c : ℕ) (w : Showing) (symbols : List ℕ) (gone doubtful changed : ℕ) : Type 0 where
  pub frame : List ℕ
  pub its_frame : FrameOf F m n c symbols frame
  pub fits : Fits silent_limit m n c (reading F.order w) frame
  pub gone_are : gone_strips n (reading F.order w) ≡ gone
  pub doubtful_are : doubtful_squares m n (reading F.order w) ≡ doubtful
  pub changed_are : changed_squares m n (reading F.order w) frame ≡ changed

pub record TooManyGone (F : Ops) (m n c : ℕ) (w : Showing) : Type 0 where
  pub gone : c ≤ gone_strips n (reading F.order w)

pub record TooManyDoubtful (F : Ops) (m n c : ℕ) (w : Showing) : Type 0 where
  pub gone : gone_strips n (reading F.order w) < c
  pub doubtful : m < doubtful_squares m n (reading F.order w)

pub record FitsNone (F : Ops) (m n c : ℕ) (w : Showing) : Type 0 where
  pub gone : gone_strips n (reading F.order w) < c
  pub doubtful : doubtful_squares m n (reading F.order w) ≤ m
  pub none : (symbols xs : List ℕ) → FrameOf F m n c symbols xs → Fits silent_limit m n c (reading F.order w) xs → ⊥
