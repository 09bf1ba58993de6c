-- The tables by which check sums are computed.
--   Powers     the list has the powers of a code, from exponent 0 on
--   Moments    the list has the power sums of weighted points, from exponent 0 on
--   column     the power sum h of strip j's symbols at their locators
--   Columns    the list has, strip by strip, each strip's power sums below m
--   row_sum    the power sum i, at the strips' locators, of their power sums h
--   Row        the list has the h-th power sums of the strips
--   RowSums    the list has the row-sums: rows of c
--   Scattered  a row is put into the table of strips
--   Sums       the list has the check sums of an array: m rows of c
--   FilledIn   a list whose strips have the power sums that another list has
--   CheckColumns   the power sums that the check strips must have
--   CheckStrips    check strips that have such power sums
--   Completed  the frame that begins as an array does
-- Assumes nothing.
use Rattle.std.specs.Prelude.{◌≡◌, ℕ, ◌+◌, ◌*◌, ◌<◌, ◌≤◌, ◌≢◌, List, length, slice_index}
use Rattle.refusal.specs.Codes.{Below}
use Rattle.laws.specs.Ops.{Ops, power, sum}
use Rattle.algebra.specs.Frames.{check_sum, IsFrame}
use Rattle.solver.specs.Sums.{moment}

abbrev pub Powers : Ops → ℕ → List ℕ → Type 0
Powers F x xs = (j : ℕ) → j < length xs → slice_index xs j ≡ power F x j

abbrev pub Moments : Ops → List ℕ → List ℕ → List ℕ → Type 0
Moments F points xs out = (h : ℕ) → h < length out → slice_index out h ≡ moment F points xs h

abbrev pub column : Ops → ℕ → List ℕ → List ℕ → ℕ → ℕ → ℕ
column F m points xs j h = sum F m (λ κ. F.mul (slice_index xs (j * m + κ)) (power F (slice_index points (j * m + κ)) h))

-- the first n strips
pub record Columns (F : Ops) (m n : ℕ) (points xs columns : List ℕ) : Type 0 where
  pub sums : (j h : ℕ) → j < n → h < m → slice_index columns (j * m + h) ≡ column F m points xs j h

-- the power sum i of the strips' power sums h
abbrev pub row_sum : Ops → ℕ → List ℕ → List ℕ → ℕ → ℕ → ℕ
row_sum F m points columns h i = sum F (length points) (λ j. F.mul (slice_index columns (j * m + h)) (power F (slice_index points j) i))

abbrev pub Row : ℕ → ℕ → List ℕ → List ℕ → Type 0
Row m h columns row = (j : ℕ) → j < length row → slice_index row j ≡ slice_index columns (j * m + h)

-- the first k rows: each has the power sums of the strips' power sums
pub record RowSums (F : Ops) (m c k : ℕ) (points columns table : List ℕ) : Type 0 where
  pub sums : (h i : ℕ) → h < k → i < c → slice_index table (h * c + i) ≡ row_sum F m points columns h i

pub record Sums (F : Ops) (m n c : ℕ) (xs table : List ℕ) : Type 0 where
  pub sums : (h i : ℕ) → h < m → i < c → slice_index table (h * c + i) ≡ check_sum F m n xs h i

-- the first n strips of xs have the power sums of columns, the others are those of columns
pub record FilledIn (F : Ops) (m n : ℕ) (points columns xs : List ℕ) : Type 0 where
  pub below : (p : ℕ) → p < n * m → slice_index xs p < F.order
  pub sums : (j h : ℕ) → j < n → h < m → column F m points xs j h ≡ slice_index columns (j * m + h)
  pub later : (p : ℕ) → n * m ≤ p → slice_index xs p ≡ slice_index columns p

-- the h-th power sums of the first n strips are those of the row, and all else is as it was
pub record Scattered (m h n : ℕ) (row columns columns' : List ℕ) : Type 0 where
  pub there : (j : ℕ) → j < n → slice_index columns' (j * m + h) ≡ slice_index row j
  pub others : (p : ℕ) → ((j : ℕ) → j < n → p ≢ j * m + h) → slice_index columns' p ≡ slice_index columns p

-- the first k power sums of each strip: those by which the row-sums are the negated check sums of the table
pub record CheckColumns (F : Ops) (m k : ℕ) (points table columns : List ℕ) : Type 0 where
  pub below : (t h : ℕ) → t < length points → h < k → slice_index columns (t * m + h) < F.order
  pub sums : (h i : ℕ) → h < k → i < length points → row_sum F m points columns h i ≡ F.neg (slice_index table (h * length points + i))

-- check strips by which the check sums of the table are made up for
pub record CheckStrips (F : Ops) (m : ℕ) (points squares table xs : List ℕ) : Type 0 where
  pub below : Below F.order xs
  pub sums : (h i : ℕ) → h < m → i < length points
      → sum F (length points) (λ t. F.mul (column F m squares xs t h) (power F (slice_index points t) i)) ≡ F.neg (slice_index table (h * length points + i))

-- xs is the frame that has the first k strips of start
pub record Completed (F : Ops) (m n c k : ℕ) (start xs : List ℕ) : Type 0 where
  pub frame : IsFrame F m n c xs
  pub front : (p : ℕ) → p < k * m → slice_index xs p ≡ slice_index start p
