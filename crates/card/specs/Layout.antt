-- How a card lays its frames out in memory: strip after strip, frame after frame, a line to a strip.
--   width         the bytes of a strip: its m characters and a newline, at which nothing ever looks
--   char_at       where the character of square k of strip s of frame f is
--   square_of     what a character says: the code that it stands for, else doubtful
--   strip_gone    none of the m characters from a place on is in the alphabet
--   strip_blank   each of them is a space
--   frame_blank   each character of frame f is a space
--   fresh_byte    the byte of a fresh card at place i: a newline at the end of each strip, a space elsewhere
--   card_plan     how a strip stands in the memory
--   card_reads    what the bytes say. A memory of the wrong length is no card's: it reads as closed, with every strip gone
--   card_shows    the meaning of a card over a memory
-- Assumes nothing.
use Rattle.std.specs.Prelude.{ℕ, ◌+◌, ◌%◌, Bool, cond, not, List, Some, None, Option, ◌==◌, nat_eq, slice_index}
use Rattle.medium.specs.declared.counts.Counts.{Counts}
use Rattle.medium.specs.Meaning.{Meaning, Square, doubtful, clear}
use Rattle.medium.specs.Places.{strip_at}
use Rattle.medium.specs.Within.{Reading}
use Rattle.memory.specs.Every.{every}
use Rattle.memory.specs.Plan.{Plan}
use Rattle.memory.specs.Shows.{reads, shows}
use Rattle.card.specs.Alphabet.{value_of, is_letter}

abbrev pub width : ℕ → ℕ
width m = m + 1

abbrev pub char_at : ℕ → ℕ → ℕ → ℕ → ℕ → ℕ
char_at n m f s k = strip_at n (width m) f s + k

abbrev pub square_of : Option ℕ → Square
square_of (Some c) = clear c
square_of None = doubtful

abbrev pub strip_gone : List ℕ → ℕ → ℕ → Bool
strip_gone xs at m = every m (λ k. not (is_letter (slice_index xs (at + k))))

abbrev pub strip_blank : List ℕ → ℕ → ℕ → Bool
strip_blank xs at m = every m (λ k. nat_eq (slice_index xs (at + k)) 32)

abbrev pub frame_blank : ℕ → ℕ → List ℕ → ℕ → Bool
frame_blank n m xs f = every n (λ s. strip_blank xs (strip_at n (width m) f s) m)

abbrev pub fresh_byte : ℕ → ℕ → ℕ
fresh_byte m i = cond (i % width m == m) 10 32

abbrev pub card_plan : Plan
card_plan = record {
  levels = 37;
  width = width;
  gone = strip_gone;
  square = λ xs at m k. square_of (value_of (slice_index xs (at + k)));
  writable = strip_blank;
  fresh_byte = fresh_byte;
}

abbrev pub card_reads : ℕ → ℕ → ℕ → List ℕ → Reading
card_reads fs n m xs = reads card_plan (record { frames = fs; strips = n; squares = m }) xs

abbrev pub card_shows : Counts → List ℕ → Meaning
card_shows c xs = shows card_plan c xs
