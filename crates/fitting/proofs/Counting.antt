-- How many pass: one more, side by side, and strip by strip; by induction on how many are looked at. Assumes nothing.
use Rattle.std.proofs.Common.{◌≡◌, ℕ, zero, suc, ◌+◌, ◌*◌, ◌<◌, Bool, ◌&&◌, ltb, refl, add-zero, add-suc, suc-mul, arith}
use native.Mathlib.Nat.{mul-add-div_right, div-eq_of_lt}
use Rattle.algebra.specs.Showings.{count}
use Rattle.fitting.specs.Wrong.{total}

module _ (p : ℕ → Bool) where
  pub count_add : (a b : ℕ) → count (a + b) p ≡ count a p + count b (λ i. p (a + i))
  count_add a zero = rw (add-zero a) (omega arith)
  count_add a (suc b) = let ih = count_add a b in rw (add-suc a b) (omega arith)

  -- strip by strip
  pub count_blocks : (m n : ℕ) → count (n * m) p ≡ total n (λ j. count m (λ κ. p (j * m + κ)))
  count_blocks m zero = rw (native.Mathlib.Nat.zero-mul m)
  count_blocks m (suc n) = let ih = count_blocks m n in rw (suc-mul n m) (omega (arith, count_add (n * m) m))

  -- the first k of those that pass
  unfoldable pub first : ℕ → ℕ → Bool
  first k j = p j && ltb (count j p) k

pub total_same : (k : ℕ) (f g : ℕ → ℕ) → ((i : ℕ) → i < k → f i ≡ g i) → total k f ≡ total k g
total_same zero f g h = refl
total_same (suc k) f g h = let ih = total_same k f g (λ i l. h i (omega arith)) in omega (arith, h k (omega arith))
