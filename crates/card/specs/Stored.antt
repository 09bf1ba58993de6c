-- What a writing leaves in the bytes of a card.
--   Line     the m characters from a place on stand for m codes, from one of them on, and a newline follows
--   Stored   all strips of frame f hold their codes, and every byte that is not the frame's is as it was
-- Assumes nothing.
use Rattle.std.specs.Prelude.{◌≡◌, ℕ, ◌+◌, ◌*◌, ◌<◌, List, slice_index, slice_index_or}
use Rattle.medium.specs.Memory.{Filled}
use Rattle.medium.specs.Places.{strip_at}
use Rattle.card.specs.Alphabet.{letter}
use Rattle.card.specs.Layout.{width}

pub record Line (xs : List ℕ) (at m : ℕ) (codes : List ℕ) (from : ℕ) : Type 0 where
  pub shown : (k : ℕ) → k < m → slice_index xs (at + k) ≡ letter (slice_index codes (from + k))
  pub newline : slice_index_or xs (at + m) 0 ≡ 10

-- strip s of frame f, written
abbrev pub line_of : ℕ → ℕ → ℕ → List ℕ → ℕ → List ℕ → Type 0
line_of n m f codes s ys = Line ys (strip_at n (width m) f s) m codes (s * m)

abbrev pub Stored : ℕ → ℕ → ℕ → List ℕ → List ℕ → List ℕ → Type 0
Stored n m f codes xs ys = Filled n (width m) f n (line_of n m f codes) xs ys
