-- What codes and marks show, as a field of order q reads it.
--   shows           the reading of what the codes and marks show
--   Sized           codes and marks of the lengths that n strips of m squares have, all fit to be places in a byte
--   doubtful_list   the doubtful squares, in their order
-- Assumes nothing.
use Rattle.std.specs.Prelude.{◌≡◌, ℕ, ◌*◌, ◌<◌, ◌≤◌, List, length}
use Rattle.std.specs.List.{filter, range_with_len}
use Rattle.algebra.specs.Showings.{Showing, reading, doubt}
use Rattle.fitting.specs.Marks.{shown_by}

abbrev pub shows : ℕ → List ℕ → List ℕ → List ℕ → Showing
shows q codes strips squares = reading q (shown_by codes strips squares)

pub record Sized (m : ℕ) (codes strips squares : List ℕ) : Type 0 where
  pub some : 0 < m
  pub shown : length codes ≡ length strips * m
  pub marks : length squares ≡ length strips * m
  pub narrow : length strips * m ≤ 256

abbrev pub doubtful_list : ℕ → ℕ → Showing → List ℕ
doubtful_list m n w = filter (doubt m w) (range_with_len 0 (n * m))
