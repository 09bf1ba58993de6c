-- The published code: arrays of n strips of m squares, strip by strip, of which c strips are checks.
-- Square κ of strip j stands at place j * m + κ.
--   strip_locator    α of strip j: the generator to the power j
--   square_locator   β of the square at a place p: the generator to the power p
--   term             what square κ of strip j adds to the check sum (h, i): symbol · α^i · β^h
--   check_sum        the check sum (h, i) of an array, over all squares of all strips
--   IsFrame          an array of codes of which every check sum is 0
--   record_size      how many symbols a record has: those of the strips that are no checks
--   IsRecord         a list of codes of that length
--   FrameOf          the frame that begins with the record
-- Assumes nothing.
use Rattle.std.specs.Prelude.{◌≡◌, ℕ, ◌+◌, ◌-◌, ◌*◌, ◌<◌, List, length, take, slice_index}
use Rattle.refusal.specs.Codes.{Below}
use Rattle.laws.specs.Ops.{Ops, power, sum}

abbrev pub strip_locator : Ops → ℕ → ℕ
strip_locator F j = power F F.generator j

abbrev pub square_locator : Ops → ℕ → ℕ
square_locator F p = power F F.generator p

abbrev pub term : Ops → ℕ → List ℕ → ℕ → ℕ → ℕ → ℕ → ℕ
term F m xs h i j κ =
    F.mul (slice_index xs (j * m + κ)) (F.mul (power F (strip_locator F j) i) (power F (square_locator F (j * m + κ)) h))

abbrev pub check_sum : Ops → ℕ → ℕ → List ℕ → ℕ → ℕ → ℕ
check_sum F m n xs h i = sum F n (λ j. sum F m (term F m xs h i j))

pub record IsFrame (F : Ops) (m n c : ℕ) (xs : List ℕ) : Type 0 where
  pub size : length xs ≡ n * m
  pub codes : Below F.order xs
  pub checks : (h i : ℕ) → h < m → i < c → check_sum F m n xs h i ≡ 0

abbrev pub record_size : ℕ → ℕ → ℕ → ℕ
record_size m n c = (n - c) * m

pub record IsRecord (F : Ops) (m n c : ℕ) (symbols : List ℕ) : Type 0 where
  pub size : length symbols ≡ record_size m n c
  pub codes : Below F.order symbols

pub record FrameOf (F : Ops) (m n c : ℕ) (symbols xs : List ℕ) : Type 0 where
  pub frame : IsFrame F m n c xs
  pub begins : take (record_size m n c) xs ≡ symbols
