-- The limits that every medium keeps.
--   Suited   counts within the limits: 1 to 4,096 frames, and 1 to 255 squares in a frame
--   Limits   a meaning within the limits, whose clear codes are below the levels, and which has one fixed value wherever a
--            square, a strip or a frame is not there: a frame that is not is closed, a strip gone, a square doubtful.
--            So two meanings are equal exactly if they show the same at every place that there is.
-- Assumes nothing.
use Rattle.std.specs.Prelude.{◌≡◌, ℕ, ◌*◌, ◌<◌, ◌≤◌, true, false}
use Rattle.medium.specs.Meaning.{Meaning, doubtful, clear}

abbrev pub Suited : ℕ → ℕ → ℕ → Type 0
Suited frames strips squares = (1 ≤ frames) × (frames ≤ 4096) × (1 ≤ strips * squares) × (strips * squares ≤ 255)

pub record Limits (w : Meaning) : Type 0 where
  pub suited : Suited w.frames w.strips w.squares
  pub levels_least : 1 ≤ w.levels
  pub levels_most : w.levels ≤ 256
  pub codes_below : (f s k c : ℕ) → w.square f s k ≡ clear c → c < w.levels
  pub no_frame_open : (f : ℕ) → w.frames ≤ f → w.unlocked f ≡ false
  pub no_frame_gone : (f s : ℕ) → w.frames ≤ f → w.gone f s ≡ true
  pub no_strip_gone : (f s : ℕ) → w.strips ≤ s → w.gone f s ≡ true
  pub gone_square : (f s k : ℕ) → w.gone f s ≡ true → w.square f s k ≡ doubtful
  pub no_square : (f s k : ℕ) → w.squares ≤ k → w.square f s k ≡ doubtful
