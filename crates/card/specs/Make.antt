-- How a card is made.
--   Laid        a meaning is what the layout says of the characters, one by one
--   AllOpen     every frame is open
-- Assumes nothing.
use Rattle.std.specs.Prelude.{◌≡◌, ℕ, ◌<◌, true, false, List, slice_index}
use Rattle.medium.specs.Counts.{frame_count, strip_count, square_count}
use Rattle.medium.specs.declared.counts.Counts.{Counts}
use Rattle.medium.specs.Meaning.{Meaning}
use Rattle.medium.specs.Places.{strip_at}
use Rattle.card.specs.Alphabet.{value_of}
use Rattle.card.specs.Layout.{width, char_at, square_of, strip_gone, frame_blank}

pub record Laid (c : Counts) (xs : List ℕ) (w : Meaning) : Type 0 where
  pub frames : w.frames ≡ frame_count c
  pub strips : w.strips ≡ strip_count c
  pub squares : w.squares ≡ square_count c
  pub levels : w.levels ≡ 37
  pub unlocked : (f : ℕ) → f < frame_count c → w.unlocked f ≡ frame_blank (strip_count c) (square_count c) xs f
  pub gone : (f s : ℕ) → f < frame_count c → s < strip_count c → w.gone f s ≡ strip_gone xs (strip_at (strip_count c) (width (square_count c)) f s) (square_count c)
  pub square : (f s k : ℕ) → f < frame_count c → s < strip_count c → k < square_count c → w.gone f s ≡ false → w.square f s k ≡ square_of (value_of (slice_index xs (char_at (strip_count c) (square_count c) f s k)))

abbrev pub AllOpen : Meaning → Type 0
AllOpen w = (f : ℕ) → f < w.frames → w.unlocked f ≡ true
