-- An array whose check strips make up for the check sums of the strips before them is a frame. Assumes nothing.
use Rattle.std.proofs.Common.{◌≡◌, ℕ, zero, suc, ◌+◌, ◌-◌, ◌*◌, ◌<◌, ◌≤◌, List, length, get_or, sym, refl, ap, ◌∙◌, subst, inl, inr, add_assoc, add-mul, arith}
use Rattle.std.proofs.lemmas.Bool.{cases_lt, cases_order}
use Rattle.refusal.specs.Codes.{Below}
use Rattle.laws.specs.Ops.{Ops, Laws, power, sum}
use Rattle.algebra.specs.Frames.{check_sum, strip_locator, square_locator}
use Rattle.algebra.proofs.Ring.{sum_append, zero_mul}
use Rattle.algebra.proofs.Codes.{codes, sum_code, sum_val}
use Rattle.solver.specs.Sums.{Apart}
use Rattle.solver.proofs.Parts.{part, length_part, get_d_part, power_code, sum_cong}
use Rattle.frame.specs.Tables.{Powers, column, Sums, CheckStrips, Completed}
use Rattle.frame.proofs.Strips.{in_strip}
use Rattle.frame.proofs.Columns.{check_strips}

-- a part's elements are the list's
pub tail_below : (q i j : ℕ) (xs : List ℕ) → j ≤ length xs → Below q xs → Below q (part i j xs)
tail_below q i j xs h b k l = let s = length_part i j xs h in rw (get_d_part i j xs k (omega arith)) (b (i + k) (omega arith))

pub tail_apart : (i j : ℕ) (xs : List ℕ) → j ≤ length xs → Apart xs → Apart (part i j xs)
tail_apart i j xs h a k k' l l' e =
    let s = length_part i j xs h in
    let same = a (i + k) (i + k') (omega arith) (omega arith) (sym (get_d_part i j xs k (omega arith)) ∙ e ∙ get_d_part i j xs k' (omega arith)) in omega arith

module _ (F : Ops) (L : Laws F) where
  pub powers_apart : (xs : List ℕ) → Powers F F.generator xs → length xs < F.order → Apart xs
  powers_apart xs ps short i j li lj e = elim (cases_order i j) [
    | inl s ↦ s
    | inr (inl l) ↦ absurd (L.powers_apart i j l (omega arith) (sym (ps i li) ∙ e ∙ ps j lj))
    | inr (inr l) ↦ absurd (L.powers_apart j i l (omega arith) (sym (ps j lj) ∙ sym e ∙ ps i li))
  ]

  -- from some exponent on
  pub powers_tail : (k : ℕ) (xs : List ℕ) → Powers F F.generator xs → Below F.order (part k (length xs) xs)
  powers_tail k xs ps = tail_below F.order k (length xs) xs (omega arith) (λ j l. rw (ps j l) (power_code F L F.generator j))

  pub sum_split : (k c : ℕ) (f : ℕ → ℕ) → ((j : ℕ) → f j < F.order) → sum F (k + c) f ≡ F.add (sum F k f) (sum F c (λ t. f (k + t)))
  sum_split k c f b =
      sym (sum_val F L (k + c) (λ j. (f j, b j))) ∙ ap (λ z. z.0) (sum_append (codes F L) k c (λ j. (f j, b j)))
      ∙ cc (sum_val F L k (λ j. (f j, b j)), sum_val F L c (λ t. (f (k + t), b (k + t))))

  pub zero_times : (y : ℕ) → y < F.order → F.mul 0 y ≡ 0
  zero_times y l = ap (λ z. z.0) (zero_mul (codes F L) (y, l))

  pub sum_zeros : (k : ℕ) (f : ℕ → ℕ) → ((j : ℕ) → j < k → f j ≡ 0) → sum F k f ≡ 0
  sum_zeros zero f h = refl
  sum_zeros (suc k) f h =
      let e = h k (omega arith) in let ih = sum_zeros k f (λ j l. h j (omega arith)) in
      cc (L.add_zero 0 (omega (arith, L.order_least)))

  module _ (m n c k : ℕ) (n_is : n ≡ k + c) where
    -- the power sum h of strip j, at the powers of the generator
    abbrev strip_sum : List ℕ → ℕ → ℕ → ℕ
    strip_sum xs h j = sum F m (λ κ. F.mul (get_or xs (j * m + κ) 0) (power F (square_locator F (j * m + κ)) h))

    abbrev weighed : List ℕ → ℕ → ℕ → ℕ → ℕ
    weighed xs h i j = F.mul (strip_sum xs h j) (power F (strip_locator F j) i)

    -- a check sum, by the strips before the check strips and those after
    parts : (xs : List ℕ) → Below F.order xs → (h i : ℕ) → check_sum F m n xs h i ≡ F.add (sum F k (weighed xs h i)) (sum F c (λ t. weighed xs h i (k + t)))
    parts xs b h i = sym (check_strips F L m n xs b h i) ∙ ap (λ z. sum F z (weighed xs h i)) n_is ∙ sum_split k c (weighed xs h i) (λ j. L.mul_code _ _)

    module _ (strips squares start table tail xs : List ℕ) (ps : Powers F F.generator strips) (pq : Powers F F.generator squares)
        (ls : length strips ≡ n) (lq : length squares ≡ n * m) (lt : length start ≡ n * m) (lx : length xs ≡ n * m) (bs : Below F.order start) (blank : (p : ℕ) → k * m ≤ p → get_or start p 0 ≡ 0)
        (sums : Sums F m n c start table) (made : CheckStrips F m (part k (length strips) strips) (part (k * m) (length squares) squares) table tail) (size : length tail ≡ c * m)
        (front : (p : ℕ) → p < k * m → get_or xs p 0 ≡ get_or start p 0) (back : (p : ℕ) → p < c * m → get_or xs (k * m + p) 0 ≡ get_or tail p 0) where
      all : n * m ≡ k * m + c * m
      all = ap (λ z. z * m) n_is ∙ add-mul k c m

      codes_all : Below F.order xs
      codes_all p l = let e = all in elim (cases_lt p (k * m)) [
        | inl h ↦ rw (front p h) (bs p (omega arith))
        | inr h ↦ (let q : p ≡ k * m + (p - k * m) = omega arith in
            subst (λ (z : ℕ). z < F.order) (sym (ap (λ z. get_or xs z 0) q ∙ back (p - k * m) (omega arith))) (made.below (p - k * m) (omega arith)))
      ]

      points_size : length (part k (length strips) strips) ≡ c
      points_size = length_part k (length strips) strips (omega arith) ∙ (let e : length strips - k ≡ c = omega arith in e)

      -- the strips before the check strips are those of the start, and its check strips add nothing
      before : (h i : ℕ) → h < m → i < c → sum F k (weighed xs h i) ≡ get_or table (h * c + i) 0
      before h i lh li =
          sum_cong F k (weighed xs h i) (weighed start h i) (λ j l. ap (λ z. F.mul z (power F (strip_locator F j) i))
          (sum_cong F m (λ κ. F.mul (get_or xs (j * m + κ) 0) (power F (square_locator F (j * m + κ)) h)) (λ κ. F.mul (get_or start (j * m + κ) 0) (power F (square_locator F (j * m + κ)) h))
          (λ κ q. ap (λ z. F.mul z (power F (square_locator F (j * m + κ)) h)) (front (j * m + κ) (in_strip m k j κ l q)))))
          ∙ sym (L.add_zero (sum F k (weighed start h i)) (sum_code F L k (weighed start h i)))
          ∙ ap (F.add (sum F k (weighed start h i))) (sym (sum_zeros c (λ t. weighed start h i (k + t)) nothing))
          ∙ sym (parts start bs h i) ∙ sym (sums.sums h i lh li)
        where
          nothing : (t : ℕ) → t < c → weighed start h i (k + t) ≡ 0
          nothing t l =
              ap (λ z. F.mul z (power F (strip_locator F (k + t)) i)) (sum_zeros m (λ κ. F.mul (get_or start ((k + t) * m + κ) 0) (power F (square_locator F ((k + t) * m + κ)) h))
              (λ κ q. ap (λ z. F.mul z (power F (square_locator F ((k + t) * m + κ)) h)) (blank ((k + t) * m + κ) (let e = add-mul k t m in omega arith))
              ∙ zero_times _ (power_code F L _ h)))
              ∙ zero_times _ (power_code F L _ i)

      after : (h i : ℕ) → h < m → i < c → sum F c (λ t. weighed xs h i (k + t)) ≡ F.neg (get_or table (h * c + i) 0)
      after h i lh li =
          sum_cong F c (λ t. weighed xs h i (k + t)) (λ t. F.mul (column F m (part (k * m) (length squares) squares) tail t h) (power F (get_or (part k (length strips) strips) t 0) i))
          (λ t l. let a : get_or (part k (length strips) strips) t 0 ≡ strip_locator F (k + t) = get_d_part k (length strips) strips t (omega arith) ∙ ps (k + t) (omega arith) in
          let b = column_same t l in cc)
          ∙ ap (λ z. sum F z (λ t. F.mul (column F m (part (k * m) (length squares) squares) tail t h) (power F (get_or (part k (length strips) strips) t 0) i))) (sym points_size)
          ∙ made.sums h i lh (let e = points_size in omega arith) ∙ ap (λ z. F.neg (get_or table (h * z + i) 0)) points_size
        where
          column_same : (t : ℕ) → t < c → strip_sum xs h (k + t) ≡ column F m (part (k * m) (length squares) squares) tail t h
          column_same t l = sum_cong F m (λ κ. F.mul (get_or xs ((k + t) * m + κ) 0) (power F (square_locator F ((k + t) * m + κ)) h))
              (λ κ. F.mul (get_or tail (t * m + κ) 0) (power F (get_or (part (k * m) (length squares) squares) (t * m + κ) 0) h))
              (λ κ q. let e = all in let r = in_strip m c t κ l q in
              let place : (k + t) * m + κ ≡ k * m + (t * m + κ) = ap (λ z. z + κ) (add-mul k t m) ∙ add_assoc (k * m) (t * m) κ in
              let x : get_or xs ((k + t) * m + κ) 0 ≡ get_or tail (t * m + κ) 0 = ap (λ z. get_or xs z 0) place ∙ back (t * m + κ) r in
              let y : get_or (part (k * m) (length squares) squares) (t * m + κ) 0 ≡ square_locator F ((k + t) * m + κ) = get_d_part (k * m) (length squares) squares (t * m + κ) (omega arith) ∙ pq (k * m + (t * m + κ)) (omega arith) ∙ ap (square_locator F) (sym place) in
              cc)

      pub completed : Completed F m n c k start xs
      completed = record {
        frame = record {
          size = lx;
          codes = codes_all;
          checks = λ h i lh li. parts xs codes_all h i
              ∙ ap (λ z. F.add z (sum F c (λ t. weighed xs h i (k + t)))) (before h i lh li) ∙ ap (F.add (get_or table (h * c + i) 0)) (after h i lh li)
              ∙ L.add_neg (get_or table (h * c + i) 0) (subst (λ (z : ℕ). z < F.order) (sym (sums.sums h i lh li)) (sum_code F L n _));
        };
        front = front;
      }
