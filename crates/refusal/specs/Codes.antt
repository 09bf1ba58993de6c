-- Lists of codes.
--   Below   every code of the list is below a limit
-- Assumes nothing.
use Rattle.std.specs.Prelude.{ℕ, ◌<◌, List, length, slice_index}

abbrev pub Below : ℕ → List ℕ → Type 0
Below q xs = (i : ℕ) → i < length xs → slice_index xs i < q
