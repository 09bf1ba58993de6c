-- What is proved of the code, over every field that keeps the laws and every geometry.
--   FrameUnique     a record has at most one frame
--   FitUnique       whatever is shown, and whatever the silent limit, two frames that fit it are one frame
--   RecordsApart    whatever is shown, no two different records have frames that fit it
--   ExactFits       a frame that is shown exactly fits, with all three counts 0
--   FitsHigher      what fits under a limit fits under every higher one
-- Assumes nothing.
use Rattle.std.specs.Prelude.{◌≡◌, ℕ, ◌*◌, ◌<◌, ◌≤◌, false, List, slice_index}
use Rattle.laws.specs.Ops.{Ops, Laws}
use Rattle.geometry.specs.Rule.{Rule}
use Rattle.algebra.specs.Frames.{IsFrame, FrameOf}
use Rattle.algebra.specs.Showings.{Showing, reading, gone_strips, doubtful_squares, changed_squares, Fits}

abbrev pub FrameUnique : Type 0
FrameUnique = (F : Ops) → Laws F → (m n c : ℕ) → Rule F.order m n c → (symbols xs ys : List ℕ)
    → FrameOf F m n c symbols xs → FrameOf F m n c symbols ys → xs ≡ ys

abbrev pub FitUnique : Type 0
FitUnique = (F : Ops) → Laws F → (m n c : ℕ) → Rule F.order m n c → (limit : ℕ) (w : Showing) (xs ys : List ℕ)
    → IsFrame F m n c xs → IsFrame F m n c ys → Fits limit m n c w xs → Fits limit m n c w ys → xs ≡ ys

abbrev pub RecordsApart : Type 0
RecordsApart = (F : Ops) → Laws F → (m n c : ℕ) → Rule F.order m n c → (limit : ℕ) (w : Showing) (rec sec xs ys : List ℕ)
    → FrameOf F m n c rec xs → FrameOf F m n c sec ys → Fits limit m n c (reading F.order w) xs → Fits limit m n c (reading F.order w) ys → rec ≡ sec

-- nothing is gone or doubtful, and each square shows the frame's code
pub record ShowsExactly (m n : ℕ) (w : Showing) (xs : List ℕ) : Type 0 where
  pub present : (j : ℕ) → j < n → w.gone j ≡ false
  pub certain : (p : ℕ) → p < n * m → w.doubtful p ≡ false
  pub same : (p : ℕ) → p < n * m → w.shown p ≡ slice_index xs p

pub record FitsClean (limit m n c : ℕ) (w : Showing) (xs : List ℕ) : Type 0 where
  pub fits : Fits limit m n c w xs
  pub none_gone : gone_strips n w ≡ 0
  pub none_doubtful : doubtful_squares m n w ≡ 0
  pub none_changed : changed_squares m n w xs ≡ 0

abbrev pub ExactFits : Type 0
ExactFits = (F : Ops) (m n c : ℕ) → Rule F.order m n c → (limit : ℕ) (w : Showing) (xs : List ℕ) → IsFrame F m n c xs
    → ShowsExactly m n w xs → FitsClean limit m n c (reading F.order w) xs

abbrev pub FitsHigher : Type 0
FitsHigher = (limit limit' m n c : ℕ) (w : Showing) (xs : List ℕ) → limit ≤ limit' → Fits limit m n c w xs → Fits limit' m n c w xs
