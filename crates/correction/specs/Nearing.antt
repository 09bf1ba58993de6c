-- How an array is brought nearer to a frame, whichever it is.
--   Ahead      a place is one of the listed squares from the k-th on
--   Agrees     two arrays are the same but for strips that are gone or wrong and the listed squares from the k-th on
--   Near       a frame that an array agrees with, where few enough strips are gone or wrong
--   Held       an array of codes, and the table of its check sums
--   Site       the locators of the strips, and the marks of those that are gone
--   Listed     squares, all different and no more than a strip has, and their locators
--   Decodes    the row that an answer is for every word with the sums, few strips of which are wrong
--   gaps       the product of x minus each of the first k points
--   Found      an answer for the h-th row of a table in the h-th places of all strips, for the first k rows
-- Assumes nothing.
use Rattle.std.specs.Prelude.{◌≡◌, ℕ, zero, suc, ◌+◌, ◌-◌, ◌*◌, ◌/◌, ◌<◌, ◌≤◌, Bool, true, ◌⊎◌, List, length, take, drop, slice_index}
use Rattle.refusal.specs.Codes.{Below}
use Rattle.geometry.specs.Rule.{Rule}
use Rattle.laws.specs.Ops.{Ops, less}
use Rattle.algebra.specs.Frames.{IsFrame, square_locator}
use Rattle.algebra.specs.Showings.{count}
use Rattle.solver.specs.Sums.{Apart, Word, marked}
use Rattle.frame.specs.Tables.{Powers, Sums}

abbrev pub Ahead : List ℕ → ℕ → ℕ → Type 0
Ahead squares k p = (i : ℕ) × (k ≤ i) × (i < length squares) × (slice_index squares i ≡ p)

abbrev pub Agrees : ℕ → ℕ → (ℕ → Bool) → (ℕ → Bool) → List ℕ → ℕ → List ℕ → List ℕ → Type 0
Agrees m n gone wrong squares k xs ys =
    (p : ℕ) → p < n * m → (slice_index xs p ≡ slice_index ys p) ⊎ ((gone (p / m) ≡ true) ⊎ ((wrong (p / m) ≡ true) ⊎ Ahead squares k p))

pub record Near (F : Ops) (m n c : ℕ) (gone wrong : ℕ → Bool) (squares : List ℕ) (k : ℕ) (xs ys : List ℕ) : Type 0 where
  pub frame : IsFrame F m n c ys
  pub room : 2 * count n wrong + count n gone < c
  pub agrees : Agrees m n gone wrong squares k xs ys

pub record Held (F : Ops) (m n c : ℕ) (xs table : List ℕ) : Type 0 where
  pub size : length xs ≡ n * m
  pub below : Below F.order xs
  pub table_size : length table ≡ m * c
  pub sums : Sums F m n c xs table

pub record Site (F : Ops) (m n c : ℕ) (strips : List ℕ) (gone : List Bool) : Type 0 where
  pub rule : Rule F.order m n c
  pub size : length strips ≡ n
  pub powers : Powers F F.generator strips
  pub marks : length gone ≡ n
  pub room : count n (marked gone) < c

pub record Listed (F : Ops) (m n : ℕ) (squares points : List ℕ) : Type 0 where
  pub few : length squares ≤ m
  pub size : length points ≡ length squares
  pub places : (i : ℕ) → i < length squares → slice_index squares i < n * m
  pub located : (i : ℕ) → i < length squares → slice_index points i ≡ square_locator F (slice_index squares i)
  pub apart : Apart squares

abbrev pub Decodes : Ops → List ℕ → List ℕ → List Bool → List ℕ → Type 0
Decodes F points sums gone out = (wrong : ℕ → Bool) (e : List ℕ) → Word F points sums gone wrong e → (j : ℕ) → j < length points → slice_index out j ≡ slice_index e j

abbrev pub gaps : Ops → List ℕ → ℕ → ℕ → ℕ
gaps F points x zero = 1
gaps F points x (suc k) = F.mul (less F x (slice_index points k)) (gaps F points x k)

pub record Found (F : Ops) (m c k : ℕ) (strips : List ℕ) (gone : List Bool) (table columns : List ℕ) : Type 0 where
  pub below : (h j : ℕ) → h < k → j < length strips → slice_index columns (j * m + h) < F.order
  pub is : (h : ℕ) → h < k → (wrong : ℕ → Bool) (e : List ℕ) → Word F strips (take (h * c + c - h * c) (drop (h * c) table)) gone wrong e
      → (j : ℕ) → j < length strips → slice_index columns (j * m + h) ≡ slice_index e j
