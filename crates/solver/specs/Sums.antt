-- Sums of codes against the powers of points. Assumes nothing.
use Rattle.std.specs.Prelude.{◌≡◌, ℕ, zero, suc, ◌+◌, ◌-◌, ◌*◌, ◌<◌, ◌≤◌, Bool, true, false, cond, ◌≢◌, List, length, get_or, nat_lt, slice_index, slice_index_or}
use Rattle.refusal.specs.Codes.{Below}
use Rattle.laws.specs.Ops.{Ops, power, sum, less}
use Rattle.algebra.specs.Showings.{count}

abbrev pub Apart : List ℕ → Type 0
Apart xs = (i j : ℕ) → i < length xs → j < length xs → slice_index xs i ≡ slice_index xs j → i ≡ j

-- the sum of the weights xs times the powers i of the points
abbrev pub moment : Ops → List ℕ → List ℕ → ℕ → ℕ
moment F points xs i = sum F (length points) (λ t. F.mul (slice_index xs t) (power F (slice_index points t) i))

-- ys is xs with b times the one before taken away from each but the first
pub record Peeled (F : Ops) (b : ℕ) (xs ys : List ℕ) : Type 0 where
  pub head : get_or ys 0 0 ≡ slice_index xs 0
  pub next : (i : ℕ) → suc i < length xs → slice_index ys (suc i) ≡ less F (slice_index xs (suc i)) (F.mul b (slice_index xs i))

-- what the point after t weighs, by its weight in the sums peeled by the first point
abbrev pub found : Ops → List ℕ → List ℕ → ℕ → ℕ
found F points ys t = F.mul (slice_index ys (suc t)) (F.inv (less F (slice_index points (suc t)) (slice_index points 0)))

-- what solving takes, and what it gives
pub record Solvable (F : Ops) (points values : List ℕ) : Type 0 where
  pub size : length values ≡ length points
  pub points_below : Below F.order points
  pub values_below : Below F.order values
  pub apart : Apart points

pub record Solved (F : Ops) (points values xs : List ℕ) : Type 0 where
  pub below : Below F.order xs
  pub sums : (i : ℕ) → i < length points → moment F points xs i ≡ slice_index values i

-- xs slid up by k places
abbrev pub shifted : ℕ → List ℕ → ℕ → ℕ
shifted k xs u = cond (nat_lt u k) 0 (slice_index xs (u - k))

-- n weights on the values from i on
abbrev pub weighed : Ops → ℕ → List ℕ → List ℕ → ℕ → ℕ
weighed F n ws xs i = sum F n (λ u. F.mul (slice_index ws u) (slice_index xs (i + u)))

-- t + 1 weights, one of them 1, that take each t + 1 values in a row to zero, t times
pub record Kernel (F : Ops) (t : ℕ) (values ws : List ℕ) : Type 0 where
  pub below : Below F.order ws
  pub lead : ℕ
  pub lead_less : lead ≤ t
  pub lead_one : get_or ws lead 0 ≡ 1
  pub none : (i : ℕ) → i < t → weighed F (suc t) ws values i ≡ 0

-- the first n places of zs are by f, the others 0
pub record Filled (f : ℕ → ℕ) (n : ℕ) (zs : List ℕ) : Type 0 where
  pub first : (u : ℕ) → u < n → slice_index zs u ≡ f u
  pub others : (u : ℕ) → n ≤ u → slice_index zs u ≡ 0

-- the weights xs, slid up by ka, less d times the weights ws, slid up by kb
abbrev pub combined : Ops → ℕ → ℕ → ℕ → List ℕ → List ℕ → ℕ → ℕ
combined F ka kb d xs ws u = less F (shifted ka xs u) (F.mul d (shifted kb ws u))

abbrev pub marked : List Bool → ℕ → Bool
marked xs j = slice_index_or xs j false

-- the values, peeled by the points below j that are gone
abbrev pub struck : Ops → List ℕ → List Bool → List ℕ → ℕ → ℕ → ℕ
struck F points gone vs zero i = slice_index vs i
struck F points gone vs (suc j) i =
    cond (marked gone j) (less F (struck F points gone vs j (suc i)) (F.mul (slice_index points j) (struck F points gone vs j i))) (struck F points gone vs j i)

-- m weights from the k-th on, by powers of x
abbrev pub value : Ops → List ℕ → ℕ → ℕ → ℕ → ℕ
value F ws x k zero = 0
value F ws x k (suc m) = F.add (slice_index ws k) (F.mul x (value F ws x (suc k) m))

-- j is marked if it is gone or its point is a root
pub record Choice (F : Ops) (points : List ℕ) (gone : List Bool) (ws : List ℕ) (n : ℕ) (mask : List Bool) (j : ℕ) : Type 0 where
  pub out : marked mask j ≡ false → (marked gone j ≡ false) × (value F ws (slice_index points j) 0 n ≢ 0)
  pub root : marked mask j ≡ true → marked gone j ≡ false → value F ws (slice_index points j) 0 n ≡ 0

-- what a row takes
pub record Row (F : Ops) (points sums : List ℕ) (gone : List Bool) : Type 0 where
  pub size : length gone ≡ length points
  pub points_below : Below F.order points
  pub apart : Apart points
  pub sums_below : Below F.order sums
  pub room : count (length points) (marked gone) ≤ length sums
  pub short : length sums ≤ 255
  pub narrow : length points ≤ 256

-- a word with the sums, zero but for the places that are gone and a few that are wrong
pub record Word (F : Ops) (points sums : List ℕ) (gone : List Bool) (wrong : ℕ → Bool) (e : List ℕ) : Type 0 where
  pub below : Below F.order e
  pub has : (i : ℕ) → i < length sums → moment F points e i ≡ slice_index sums i
  pub only : (j : ℕ) → j < length points → marked gone j ≡ false → wrong j ≡ false → slice_index e j ≡ 0
  pub room : 2 * count (length points) wrong + count (length points) (marked gone) ≤ length sums

-- the mask is small and has each place where such a word is not zero
pub record Located (F : Ops) (points sums : List ℕ) (gone mask : List Bool) : Type 0 where
  pub few : count (length points) (marked mask) ≤ length sums
  pub zeros : (wrong : ℕ → Bool) (e : List ℕ) → Word F points sums gone wrong e → (j : ℕ) → j < length points → marked mask j ≡ false → slice_index e j ≡ 0

-- zero but for the mask, with as many of the sums as the mask has places
pub record Restored (F : Ops) (points sums : List ℕ) (mask : List Bool) (xs : List ℕ) : Type 0 where
  pub below : Below F.order xs
  pub zeros : (j : ℕ) → j < length points → marked mask j ≡ false → slice_index xs j ≡ 0
  pub has : (i : ℕ) → i < count (length points) (marked mask) → moment F points xs i ≡ slice_index sums i

-- the first n places of the row have x times the powers of a taken away
pub record TakenRow (F : Ops) (x a n : ℕ) (xs ys : List ℕ) : Type 0 where
  pub done : (i : ℕ) → i < n → slice_index ys i ≡ less F (slice_index xs i) (F.mul x (power F a i))
  pub later : (i : ℕ) → n ≤ i → slice_index ys i ≡ slice_index xs i

-- the first n rows of c have x times the powers of a and of b taken away
pub record Taken (F : Ops) (x a b c n : ℕ) (xs ys : List ℕ) : Type 0 where
  pub done : (h i : ℕ) → h < n → i < c → slice_index ys (h * c + i) ≡ less F (slice_index xs (h * c + i)) (F.mul (F.mul x (power F b h)) (power F a i))
  pub later : (k : ℕ) → n * c ≤ k → slice_index ys k ≡ slice_index xs k

-- v peeled by the first j points
abbrev pub fold_of : Ops → List ℕ → (ℕ → ℕ) → ℕ → ℕ → ℕ
fold_of F points v zero i = v i
fold_of F points v (suc j) i = less F (fold_of F points v j (suc i)) (F.mul (slice_index points j) (fold_of F points v j i))
