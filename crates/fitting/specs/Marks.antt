-- What codes and marks show.
--   marked         a mark that is not 0
--   shown_by       a strip is gone exactly if its mark is not 0, a square doubtful exactly if its mark is not 0, and shows its code
--   silent_limit   how many squares may be silent
-- Assumes nothing.
use Rattle.std.specs.Prelude.{ℕ, Bool, not, List, ◌==◌, slice_index}
use Rattle.algebra.specs.Showings.{Showing}

abbrev pub marked : List ℕ → ℕ → Bool
marked marks i = not (slice_index marks i == 0)

abbrev pub shown_by : List ℕ → List ℕ → List ℕ → Showing
shown_by codes strips squares = record { gone = marked strips; doubtful = marked squares; shown = λ p. slice_index codes p }

abbrev pub silent_limit : ℕ
silent_limit = 1
