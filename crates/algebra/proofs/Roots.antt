-- A sum of powers with weights not all zero has fewer roots than weights. Assumes nothing.
use Rattle.std.proofs.Common.{◌≡◌, ℕ, zero, suc, ◌+◌, ◌-◌, ◌<◌, ◌≤◌, Bool, true, ◌≢◌, sym, refl, ap, ◌∙◌, inl, inr, arith}
use native.Mathlib.Nat as N
use Rattle.std.proofs.lemmas.Bool.{cases_Bool, cases_lt}
use Rattle.algebra.specs.Showings.{count}
use Rattle.algebra.proofs.Ring.{Whole, add_comm, add_zero, zero_add, mul_zero, mul_one, mul_comm, mul_left_comm, sum, sum_cong, sum_scale, power, no_divisor, equal, add_less, ring}
use Rattle.algebra.proofs.Moments.{sum_first}

module _ (W : Whole) where
  open W use {C, 𝟘, 𝟙, ◌⊕◌, ◌⊙◌, ⊖◌, inv, mul_inv, one≢zero}

  infixl 65 ◌⊕◌
  infixl 70 ◌⊙◌
  infix 75 ⊖◌
  -- m weights from the k-th on, by powers of x
  abbrev pub value : (ℕ → C) → C → ℕ → ℕ → C
  value f x k zero = 𝟘
  value f x k (suc m) = f k ⊕ x ⊙ value f x (suc k) m

  pub value_sum : (f : ℕ → C) (x : C) (m k : ℕ) → value f x k m ≡ sum W m (λ u. f (k + u) ⊙ power W x u)
  unfolding sum power
  value_sum f x zero k = refl
  value_sum f x (suc m) k =
      ap (λ z. f k ⊕ x ⊙ z) (value_sum f x m (suc k))
      ∙ ap (λ z. f k ⊕ z) (sym (sum_scale W m x (λ u. f (suc k + u) ⊙ power W x u))
      ∙ sum_cong W m (λ u. x ⊙ (f (suc k + u) ⊙ power W x u)) (λ u. f (k + suc u) ⊙ (x ⊙ power W x u))
      (λ u _. ap (λ j. x ⊙ (f j ⊙ power W x u)) (let e : suc k + u ≡ k + suc u = omega arith in e) ∙ mul_left_comm W x (f (k + suc u)) (power W x u)))
      ∙ ap (λ z. z ⊕ sum W m (λ u. f (k + suc u) ⊙ power W x (suc u))) (sym (mul_one W (f k)) ∙ ap (λ j. f j ⊙ 𝟙) (sym (N.add-zero k)))
      ∙ sym (sum_first W m (λ u. f (k + u) ⊙ power W x u))

  divide_term : (f a d A Q : C) → f ⊕ (a ⊕ d) ⊙ (A ⊕ d ⊙ Q) ≡ (f ⊕ a ⊙ A) ⊕ d ⊙ (A ⊕ (a ⊕ d) ⊙ Q)
  divide_term f a d A Q = simp ring

  divide_none : (f a d : C) → f ⊕ (a ⊕ d) ⊙ 𝟘 ≡ (f ⊕ a ⊙ 𝟘) ⊕ d ⊙ 𝟘
  divide_none f a d = simp (mul_zero, add_zero)

  -- the weights of what is left over x - a
  abbrev over : (ℕ → C) → C → ℕ → ℕ → C
  over f a e u = value f a (suc u) (e - u)

  divide : (f : ℕ → C) (a d : C) (m k e : ℕ) → k + m ≡ e → value f (a ⊕ d) k (suc m) ≡ value f a k (suc m) ⊕ d ⊙ value (over f a e) (a ⊕ d) k m
  divide f a d zero k e q = divide_none (f k) a d
  divide f a d (suc m) k e q =
      ap (λ z. f k ⊕ (a ⊕ d) ⊙ z) (divide f a d m (suc k) e (omega arith))
      ∙ divide_term (f k) a d (value f a (suc k) (suc m)) (value (over f a e) (a ⊕ d) (suc k) m)
      ∙ ap (λ z. value f a k (suc (suc m)) ⊕ d ⊙ (value f a (suc k) z ⊕ (a ⊕ d) ⊙ value (over f a e) (a ⊕ d) (suc k) m)) (let z : suc m ≡ e - k = omega arith in z)

  first_zero : (f a b : C) → f ⊕ a ⊙ b ≡ 𝟘 → b ≡ 𝟘 → f ≡ 𝟘
  first_zero f a b e z = sym (add_zero W f) ∙ ap (λ t. f ⊕ t) (sym (mul_zero W a) ∙ ap (λ t. a ⊙ t) (sym z)) ∙ e

  apart_sum : (r s : C) → r ⊕ (s ⊕ ⊖ r) ≡ s
  apart_sum r s = add_comm W r (s ⊕ ⊖ r) ∙ add_less W s r

  -- another root is a root of what is left
  left : (f : ℕ → C) (r s : C) (e : ℕ) → s ≢ r → value f r 0 (suc e) ≡ 𝟘 → value f s 0 (suc e) ≡ 𝟘 → value (over f r e) s 0 e ≡ 𝟘
  left f r s e n z z' =
      let D : C = s ⊕ ⊖ r in
      let p = apart_sum r s in
      let q = divide f r D e 0 e (N.zero-add e) in
      let q' : value f s 0 (suc e) ≡ value f r 0 (suc e) ⊕ D ⊙ value (over f r e) s 0 e = rw p at q in
      no_divisor W (value (over f r e) s 0 e) D
      (mul_comm W (value (over f r e) s 0 e) D ∙ sym (zero_add W (D ⊙ value (over f r e) s 0 e)) ∙ cc)
      (λ t. n (equal W s r t))

  from_over : (f : ℕ → C) (r : C) (e : ℕ) → value f r 0 (suc e) ≡ 𝟘 → ((u : ℕ) → u < e → over f r e u ≡ 𝟘) → (u : ℕ) → u < suc e → f u ≡ 𝟘
  from_over f r e h zeros = at
    where
      none : (u : ℕ) → u ≤ e → over f r e u ≡ 𝟘
      none u m = elim (cases_lt u e) [ inl n ↦ zeros u n | inr n ↦ ap (value f r (suc u)) (let z : e - u ≡ 0 = omega arith in z) ]

      at : (u : ℕ) → u < suc e → f u ≡ 𝟘
      at zero m = first_zero (f 0) r (over f r e 0) (ap (λ z. f 0 ⊕ r ⊙ value f r 1 z) (let z : e - 0 ≡ e = omega arith in z) ∙ h) (none 0 (omega arith))
      at (suc u) m = first_zero (f (suc u)) r (over f r e (suc u))
          (ap (value f r (suc u)) (let z : suc (e - suc u) ≡ e - u = omega arith in z) ∙ none u (omega arith)) (none (suc u) (omega arith))

  -- K weights whose value is zero at K or more different points are zero
  pub roots : (n K : ℕ) (x f : ℕ → C) (p : ℕ → Bool) → ((i j : ℕ) → i < n → j < n → i ≢ j → x i ≢ x j) → K ≤ count n p
      → ((j : ℕ) → j < n → p j ≡ true → value f (x j) 0 K ≡ 𝟘) → (u : ℕ) → u < K → f u ≡ 𝟘
  roots n zero x f p apart l h u m = absurd (omega arith)
  roots zero (suc e) x f p apart l h u m = absurd (omega arith)
  roots (suc n) (suc e) x f p apart l h u m = elim (cases_Bool (p n)) [
    | inl q ↦ from_over f (x n) e (h n (omega arith) q)
        (roots n e x (over f (x n) e) p (λ i j li lj. apart i j (omega arith) (omega arith)) (let l' : suc e ≤ count n p + 1 = rw q at l in omega arith)
        (λ j lj r. left f (x n) (x j) e (apart j n (omega arith) (omega arith) (omega arith)) (h n (omega arith) q) (h j (omega arith) r))) u m
    | inr q ↦ roots n (suc e) x f p (λ i j li lj. apart i j (omega arith) (omega arith)) (let l' : suc e ≤ count n p + 0 = rw q at l in omega arith) (λ j lj. h j (omega arith)) u m
  ]
