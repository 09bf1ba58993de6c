-- Which strips have to be wrong.
--   total       the sum of f 0 .. f (k - 1)
--   changes     how many clear squares of strip j differ from what is shown
--   left_out    the changes of a strip that is not named wrong
--   Budget      the most squares that may be silent, under a limit and beside the doubtful squares
--   Naming      r strips with changes, named wrong, such that the changes of the others are within a budget
--   Fewest      there is a naming of r strips, and no way to name strips wrong within the budget has fewer
--   Spared      how many of some strips of one size can be left out with the rest of a budget
--   Stage       strips named wrong while those with fewer than s changes were left out as far as the budget allowed: up to an edge
--               all are left out, from it on all are named wrong
-- Assumes nothing.
use Rattle.std.specs.Prelude.{◌≡◌, ℕ, zero, suc, ◌+◌, ◌*◌, ◌<◌, ◌≤◌, Bool, true, false, cond, ◌⊎◌, List}
use Rattle.algebra.specs.Showings.{Showing, count, differs}

abbrev pub total : ℕ → (ℕ → ℕ) → ℕ
total zero f = 0
total (suc k) f = total k f + f k

abbrev pub changes : ℕ → Showing → List ℕ → ℕ → ℕ
changes m w xs j = count m (λ κ. differs m w xs (j * m + κ))

abbrev pub left_out : (ℕ → ℕ) → (ℕ → Bool) → ℕ → ℕ
left_out d wrong j = cond (wrong j) 0 (d j)

pub record Budget (limit m doubtful r : ℕ) : Type 0 where
  pub few : r ≤ limit
  pub squares : 2 * r + doubtful ≤ m
  pub most : (x : ℕ) → x ≤ limit → 2 * x + doubtful ≤ m → x ≤ r

pub record Naming (n budget : ℕ) (d : ℕ → ℕ) (r : ℕ) : Type 0 where
  pub wrong : ℕ → Bool
  pub changed : (j : ℕ) → j < n → wrong j ≡ true → 0 < d j
  pub number : count n wrong ≡ r
  pub within : total n (left_out d wrong) ≤ budget

pub record Fewest (n budget : ℕ) (d : ℕ → ℕ) (r : ℕ) : Type 0 where
  pub naming : Naming n budget d r
  pub least : (wrong : ℕ → Bool) → total n (left_out d wrong) ≤ budget → r ≤ count n wrong

pub record Spared (strips rest size r : ℕ) : Type 0 where
  pub enough : r ≤ strips
  pub paid : r * size ≤ rest
  pub most : (r ≡ strips) ⊎ (rest < r * size + size)

pub record Stage (n budget : ℕ) (d : ℕ → ℕ) (s t rest : ℕ) : Type 0 where
  pub wrong : ℕ → Bool
  pub number : count n wrong ≡ t
  pub spent : total n (left_out d wrong) + rest ≡ budget
  pub edge : ℕ
  pub least : 1 ≤ edge
  pub over : (j : ℕ) → j < n → wrong j ≡ true → edge ≤ d j
  pub under : (j : ℕ) → j < n → wrong j ≡ false → d j ≤ edge
  -- either all have been left out so far, or the rest is too small for more
  pub near : ((edge ≡ s) × ((j : ℕ) → j < n → wrong j ≡ false → d j < s)) ⊎ ((edge < s) × (rest < edge))
