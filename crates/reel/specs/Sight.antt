-- What looking over a frame tells.
--   Sighted   marks and codes that note down how each of the first `size` squares of a frame looks, with m squares in a strip
--   strips_with, squares_with, codes_with   the marks of the strips, those of the squares, and the codes, with a look noted down
-- Assumes nothing.
use Rattle.std.specs.Prelude.{ℕ, ◌/◌, ◌%◌, ◌<◌, List, slice_index, slice_set}
use Rattle.medium.specs.declared.medium.Look.{Look}
use Rattle.medium.specs.declared.medium.Look.TheVariants.{Gone, Doubtful, Clear}
use Rattle.medium.specs.Meaning.{Meaning, look_at}
use Rattle.fitting.specs.Marks.{marked}
use Rattle.kept.specs.Shows.{Noted}

abbrev pub Sighted : Meaning → ℕ → ℕ → List ℕ → List ℕ → List ℕ → ℕ → Type 0
Sighted w f m codes strips squares size =
    (p : ℕ) → p < size → Noted (look_at w f (p / m) (p % m)) (marked strips (p / m)) (marked squares p) (slice_index codes p)

abbrev pub strips_with : Look → ℕ → List ℕ → List ℕ
strips_with Gone s strips = slice_set strips s 1
strips_with Doubtful s strips = strips
strips_with (Clear c) s strips = strips

abbrev pub squares_with : Look → ℕ → List ℕ → List ℕ
squares_with Gone p squares = squares
squares_with Doubtful p squares = slice_set squares p 1
squares_with (Clear c) p squares = squares

abbrev pub codes_with : Look → ℕ → List ℕ → List ℕ
codes_with Gone p codes = codes
codes_with Doubtful p codes = codes
codes_with (Clear c) p codes = slice_set codes p c
