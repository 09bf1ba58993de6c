-- The counts of a medium, which its type keeps within the limits.
--   Shape          how many frames, strips in a frame, squares in a strip
--   frame_count    how many frames there are
--   strip_count    how many strips in a frame
--   square_count   how many squares in a strip
-- Assumes nothing.
use Rattle.std.specs.Prelude.{ℕ}

pub record Shape : Type 0 where
  pub frames : ℕ
  pub strips : ℕ
  pub squares : ℕ

abbrev pub frame_count : Shape → ℕ
frame_count c = c.frames

abbrev pub strip_count : Shape → ℕ
strip_count c = c.strips

abbrev pub square_count : Shape → ℕ
square_count c = c.squares
