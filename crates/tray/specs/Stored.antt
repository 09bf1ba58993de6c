-- What a writing leaves in the bytes of a tray.
--   Strip    the strip that starts at a place is present, and shows m codes, from one of them on, all clear
--   Stored   all strips of frame f hold their codes, and every byte that is not the frame's is as it was
-- Assumes nothing.
use Rattle.std.specs.Prelude.{◌≡◌, ℕ, ◌+◌, ◌*◌, ◌<◌, List, slice_index, slice_index_or}
use Rattle.medium.specs.Memory.{Filled}
use Rattle.medium.specs.Places.{strip_at}
use Rattle.tray.specs.Layout.{width}

pub record Strip (xs : List ℕ) (at m : ℕ) (codes : List ℕ) (from : ℕ) : Type 0 where
  pub present : slice_index_or xs at 0 ≡ 0
  pub shown : (k : ℕ) → k < m → slice_index xs (at + 1 + k) ≡ slice_index codes (from + k)
  pub sure : (k : ℕ) → k < m → slice_index xs (at + 1 + m + k) ≡ 0

-- strip s of frame f, written
abbrev pub strip_of : ℕ → ℕ → ℕ → List ℕ → ℕ → List ℕ → Type 0
strip_of n m f codes s ys = Strip ys (strip_at n (width m) f s) m codes (s * m)

abbrev pub Stored : ℕ → ℕ → ℕ → List ℕ → List ℕ → List ℕ → Type 0
Stored n m f codes xs ys = Filled n (width m) f n (strip_of n m f codes) xs ys
