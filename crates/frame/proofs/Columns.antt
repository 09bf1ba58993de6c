-- The check sums, strip by strip: the power sums of the strips' power sums. Assumes nothing.
use Rattle.std.proofs.Common.{◌≡◌, ℕ, ◌+◌, ◌*◌, ◌<◌, List, length, get_or, sym, ap, ◌∙◌, subst, arith}
use Prim.Native.Nat.{Fin}
use Rattle.refusal.specs.Codes.{Below}
use Rattle.laws.specs.Ops.{Ops, Laws, power as power_f, sum as sum_f}
use Rattle.algebra.specs.Frames.{check_sum, strip_locator, square_locator}
use Rattle.algebra.proofs.Ring.{Whole, sum, sum_cong, sum_scale, power, mul_comm, mul_left_comm}
use Rattle.algebra.proofs.Codes.{codes, gen, at, sum_code, sum_val, power_val}
use Rattle.solver.proofs.Parts.{power_code, sum_cong as sum_f_cong}
use Rattle.frame.proofs.Strips.{in_strip, by_place}
use Rattle.frame.specs.Tables.{column, row_sum, Powers, Columns}

module _ (W : Whole) where
  open W use {C, ◌⊙◌}

  infixl 70 ◌⊙◌
  -- a factor goes into a sum
  pub factor_in : (m : ℕ) (x b : ℕ → C) (a : C) → sum W m (λ κ. x κ ⊙ b κ) ⊙ a ≡ sum W m (λ κ. x κ ⊙ (a ⊙ b κ))
  factor_in m x b a =
      mul_comm W (sum W m (λ κ. x κ ⊙ b κ)) a ∙ sym (sum_scale W m a (λ κ. x κ ⊙ b κ))
      ∙ sum_cong W m (λ κ. a ⊙ (x κ ⊙ b κ)) (λ κ. x κ ⊙ (a ⊙ b κ)) (λ κ l. mul_left_comm W a (x κ) (b κ))

module _ (F : Ops) (L : Laws F) (m n : ℕ) where
  -- the power k of the locator at s, as an element
  abbrev p : ℕ → ℕ → Fin F.order
  p s k = power (codes F L) (power (codes F L) (gen F L) s) k

  -- a check sum by its strips
  pub check_strips : (xs : List ℕ) → Below F.order xs → (h i : ℕ)
      → sum_f F n (λ j. F.mul (sum_f F m (λ κ. F.mul (get_or xs (j * m + κ) 0) (power_f F (square_locator F (j * m + κ)) h))) (power_f F (strip_locator F j) i)) ≡ check_sum F m n xs h i
  check_strips xs b h i =
      let left : (sum (codes F L) n (λ j. (codes F L).◌⊙◌ (sum (codes F L) m (λ κ. (codes F L).◌⊙◌ (at F L xs b (j * m + κ)) (p (j * m + κ) h))) (p j i))).0
      ≡ sum_f F n (λ j. F.mul (sum_f F m (λ κ. F.mul (get_or xs (j * m + κ) 0) (power_f F (square_locator F (j * m + κ)) h))) (power_f F (strip_locator F j) i)) = simp (sum_val, power_val) in
      let right : (sum (codes F L) n (λ j. sum (codes F L) m (λ κ. (codes F L).◌⊙◌ (at F L xs b (j * m + κ)) ((codes F L).◌⊙◌ (p j i) (p (j * m + κ) h))))).0 ≡ check_sum F m n xs h i = simp (sum_val, power_val) in
      sym left ∙ ap (λ z. z.0) (sum_cong (codes F L) n
      (λ j. (codes F L).◌⊙◌ (sum (codes F L) m (λ κ. (codes F L).◌⊙◌ (at F L xs b (j * m + κ)) (p (j * m + κ) h))) (p j i))
      (λ j. sum (codes F L) m (λ κ. (codes F L).◌⊙◌ (at F L xs b (j * m + κ)) ((codes F L).◌⊙◌ (p j i) (p (j * m + κ) h))))
      (λ j l. factor_in (codes F L) m (λ κ. at F L xs b (j * m + κ)) (λ κ. p (j * m + κ) h) (p j i))) ∙ right

  -- a strip's power sums at the powers of the generator
  pub column_powers : (squares xs : List ℕ) → Powers F F.generator squares → length squares ≡ n * m → (j h : ℕ) → j < n
      → column F m squares xs j h ≡ sum_f F m (λ κ. F.mul (get_or xs (j * m + κ) 0) (power_f F (square_locator F (j * m + κ)) h))
  column_powers squares xs pq lq j h l =
      sum_f_cong F m (λ κ. F.mul (get_or xs (j * m + κ) 0) (power_f F (get_or squares (j * m + κ) 0) h)) (λ κ. F.mul (get_or xs (j * m + κ) 0) (power_f F (square_locator F (j * m + κ)) h))
      (λ κ k. ap (λ b. F.mul (get_or xs (j * m + κ) 0) (power_f F b h)) (pq (j * m + κ) (let r = in_strip m n j κ l k in omega arith)))

  -- the table of the strips' power sums gives the check sums
  pub rows_check : (strips squares xs columns : List ℕ) → Powers F F.generator strips → Powers F F.generator squares → length strips ≡ n → length squares ≡ n * m
      → Below F.order xs → Columns F m n squares xs columns → (h i : ℕ) → h < m → row_sum F m strips columns h i ≡ check_sum F m n xs h i
  rows_check strips squares xs columns ps pq ls lq b cols h i l =
      ap (λ k. sum_f F k (λ j. F.mul (get_or columns (j * m + h) 0) (power_f F (get_or strips j 0) i))) ls
      ∙ sum_f_cong F n (λ j. F.mul (get_or columns (j * m + h) 0) (power_f F (get_or strips j 0) i))
      (λ j. F.mul (sum_f F m (λ κ. F.mul (get_or xs (j * m + κ) 0) (power_f F (square_locator F (j * m + κ)) h))) (power_f F (strip_locator F j) i))
      (λ j k. let e : get_or strips j 0 ≡ strip_locator F j = ps j (omega arith) in let d = cols.sums j h k l ∙ column_powers squares xs pq lq j h k in cc)
      ∙ check_strips xs b h i

  pub columns_below : (points xs columns : List ℕ) → Columns F m n points xs columns → length columns ≡ n * m → Below F.order columns
  columns_below points xs columns cols e s l =
      by_place m n s (omega arith) (λ (z : ℕ). get_or columns z 0 < F.order) (λ j h lj lh. subst (λ (z : ℕ). z < F.order) (sym (cols.sums j h lj lh)) (sum_code F L m _))

  pub powers_below : (x : ℕ) (xs : List ℕ) → Powers F x xs → Below F.order xs
  powers_below x xs ps j l = rw (ps j l) (power_code F L x j)
