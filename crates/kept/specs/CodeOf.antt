-- The published code, as a reel knows it.
--   code_of   over a field, with m squares in a strip, n strips in a frame and c check strips
-- Assumes nothing.
use Rattle.std.specs.Prelude.{ℕ}
use Rattle.laws.specs.Ops.{Ops}
use Rattle.algebra.specs.Frames.{FrameOf}
use Rattle.algebra.specs.Showings.{reading, gone_strips, doubtful_squares, changed_squares, Fits}
use Rattle.fitting.specs.Marks.{silent_limit}
use Rattle.kept.specs.Code.{Code}

abbrev pub code_of : Ops → ℕ → ℕ → ℕ → Code
code_of F m n c = record {
  order = F.order;
  m = m;
  n = n;
  c = c;
  frame_of = FrameOf F m n c;
  fits = λ seen xs. Fits silent_limit m n c (reading F.order seen) xs;
  gone = λ seen. gone_strips n (reading F.order seen);
  doubtful = λ seen. doubtful_squares m n (reading F.order seen);
  changed = λ seen xs. changed_squares m n (reading F.order seen) xs;
}
