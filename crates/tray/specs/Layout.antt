-- How a tray lays its frames out in memory: strip after strip, frame after frame.
--   width        the bytes of a strip: its status, its m codes, its m doubts
--   code_at      where the code of square k of strip s of frame f is
--   doubt_at     where its doubt is
--   square_of    what a code byte and a doubt byte say
--   fresh_byte   the byte of a fresh tray at place i: 1 at a status, 0 elsewhere
--   tray_plan    how a strip stands in the memory; any strip takes a writing
--   tray_reads   what the bytes say. A memory of the wrong length is no tray's: it reads as closed, with every strip gone
--   tray_shows   the meaning of a tray over a memory
-- Assumes nothing.
use Rattle.std.specs.Prelude.{ℕ, ◌+◌, ◌*◌, ◌%◌, true, cond, not, List, ◌==◌, slice_index}
use Rattle.medium.specs.declared.counts.Counts.{Counts}
use Rattle.medium.specs.Meaning.{Meaning, Square, doubtful, clear}
use Rattle.medium.specs.Places.{strip_at}
use Rattle.medium.specs.Within.{Reading}
use Rattle.memory.specs.Plan.{Plan}
use Rattle.memory.specs.Shows.{reads, shows}

abbrev pub width : ℕ → ℕ
width m = 1 + 2 * m

abbrev pub code_at : ℕ → ℕ → ℕ → ℕ → ℕ → ℕ
code_at n m f s k = strip_at n (width m) f s + 1 + k

abbrev pub doubt_at : ℕ → ℕ → ℕ → ℕ → ℕ → ℕ
doubt_at n m f s k = strip_at n (width m) f s + 1 + m + k

abbrev pub square_of : ℕ → ℕ → Square
square_of code doubt = cond (doubt == 0) (clear code) doubtful

abbrev pub fresh_byte : ℕ → ℕ → ℕ
fresh_byte m i = cond (i % width m == 0) 1 0

abbrev pub tray_plan : Plan
tray_plan = record {
  levels = 256;
  width = width;
  gone = λ xs at m. not (slice_index xs at == 0);
  square = λ xs at m k. square_of (slice_index xs (at + 1 + k)) (slice_index xs (at + 1 + m + k));
  writable = λ xs at m. true;
  fresh_byte = fresh_byte;
}

abbrev pub tray_reads : ℕ → ℕ → ℕ → List ℕ → Reading
tray_reads fs n m xs = reads tray_plan (record { frames = fs; strips = n; squares = m }) xs

abbrev pub tray_shows : Counts → List ℕ → Meaning
tray_shows c xs = shows tray_plan c xs
