-- Sums of weights against the powers of points, peeled; at most one weighing has given sums. Assumes nothing.
use Rattle.std.proofs.Common.{◌≡◌, ℕ, zero, suc, ◌<◌, ◌≤◌, ◌≢◌, ◌⊎◌, List, [], ◌∷◌, length, All, Contains, sym, ap, ◌∙◌, inl, inr, arith}
use native.Mathlib.Decide.{ℕ_discrete}
use Rattle.std.proofs.lemmas.List.Elements.{All-head, All-tail}
use Rattle.algebra.proofs.Ring.{Whole, add_comm, add_assoc, zero_add, mul_zero, mul_one, mul_assoc, zero_mul, neg_mul, mul_comm, sum, sum_cong, sum_add, sum_neg, sum_scale, sum_one, power, no_divisor, zero_product, less_self, less_none, add_less, equal, add_neg, ring}

module _ (W : Whole) where
  open W use {C, 𝟘, 𝟙, ◌⊕◌, ◌⊙◌, ⊖◌, inv, mul_inv}

  infixl 65 ◌⊕◌
  infixl 70 ◌⊙◌
  infix 75 ⊖◌
  -- k points x with the weights w: the sum over the powers i
  abbrev pub moment : ℕ → (ℕ → C) → (ℕ → C) → ℕ → C
  moment k x w i = sum W k (λ s. w s ⊙ power W (x s) i)

  pub moment_cong : (k : ℕ) (x w w' : ℕ → C) (i : ℕ) → ((s : ℕ) → s < k → w s ≡ w' s) → moment k x w i ≡ moment k x w' i
  moment_cong k x w w' i h = sum_cong W k (λ s. w s ⊙ power W (x s) i) (λ s. w' s ⊙ power W (x s) i) (λ s l. ap (λ z. z ⊙ power W (x s) i) (h s l))

  peel_term : (w x p b : C) → w ⊙ (x ⊙ p) ⊕ ⊖ b ⊙ (w ⊙ p) ≡ (w ⊙ (x ⊕ ⊖ b)) ⊙ p
  peel_term w x p b = simp ring

  abbrev pub peel : C → (ℕ → C) → ℕ → C
  peel b v i = v (suc i) ⊕ ⊖ (b ⊙ v i)

  pub moment_peel : (k : ℕ) (x w : ℕ → C) (b : C) (i : ℕ) → peel b (moment k x w) i ≡ moment k x (λ s. w s ⊙ (x s ⊕ ⊖ b)) i
  unfolding power
  moment_peel k x w b i =
      ap (λ z. moment k x w (suc i) ⊕ z) (sym (neg_mul W b (moment k x w i)) ∙ sym (sum_scale W k (⊖ b) (λ s. w s ⊙ power W (x s) i)))
      ∙ sym (sum_add W k (λ s. w s ⊙ power W (x s) (suc i)) (λ s. ⊖ b ⊙ (w s ⊙ power W (x s) i)))
      ∙ sum_cong W k (λ s. w s ⊙ power W (x s) (suc i) ⊕ ⊖ b ⊙ (w s ⊙ power W (x s) i)) (λ s. (w s ⊙ (x s ⊕ ⊖ b)) ⊙ power W (x s) i)
      (λ s l. peel_term (w s) (x s) (power W (x s) i) b)

  pub peel_zero : (b p q : C) → p ≡ 𝟘 → q ≡ 𝟘 → p ⊕ ⊖ (b ⊙ q) ≡ 𝟘
  peel_zero b p q e e' = less_none W p (b ⊙ q) (zero_product W b q (inr e')) ∙ e

  -- weights on at most c of k different points whose first c sums are zero: peeled by one point of them, the others go
  pub nothing : (k c : ℕ) (x w : ℕ → C) → ((s t : ℕ) → s < k → t < k → s ≢ t → x s ≢ x t) → ((i : ℕ) → i < c → moment k x w i ≡ 𝟘)
      → (A : List ℕ) → length A ≤ c → All (λ s. s < k) A → ((s : ℕ) → s < k → (w s ≡ 𝟘) ⊎ Contains A s) → (t : ℕ) → t < k → w t ≡ 𝟘
  unfolding power
  nothing k c x w apart h [] few below only t l = elim (only t l) [ inl e ↦ e | inr i ↦ absurd (omega (arith, i.1)) ]
  nothing k zero x w apart h (a ∷ A) few below only t l = absurd (omega arith)
  nothing k (suc c) x w apart h (a ∷ A) few below only t l =
      let peeled = nothing k c x (λ s. w s ⊙ (x s ⊕ ⊖ x a)) apart
      (λ i m. sym (moment_peel k x w (x a) i) ∙ peel_zero (x a) (moment k x w (suc i)) (moment k x w i) (h (suc i) (omega arith)) (h i (omega arith)))
      A (omega arith) (All-tail (λ s. s < k) a A below) (λ s m. elim (only s m) [ inl e ↦ inl (zero_product W (w s) (x s ⊕ ⊖ x a) (inl e)) | inr i ↦ rest s i ]) in
      elim (ℕ_discrete t a) [
        | yes q ↦ sym (mul_one W (w t)) ∙ sym (sum_one W k t (λ s. w s ⊙ 𝟙) l (λ s m n. zero_product W (w s) 𝟙 (inl (other peeled s m (λ e. n (e ∙ sym q)))))) ∙ h 0 (omega arith)
        | no n ↦ other peeled t l n
      ]
    where
      rest : (s : ℕ) → Contains (a ∷ A) s → (w s ⊙ (x s ⊕ ⊖ x a) ≡ 𝟘) ⊎ Contains A s
      rest s (zero, m, e) = inl (ap (λ z. w s ⊙ (x s ⊕ ⊖ x z)) e ∙ zero_product W (w s) (x s ⊕ ⊖ x s) (inr (add_neg W (x s))))
      rest s (suc i, m, e) = inr (i, omega arith, e)

      other : ((s : ℕ) → s < k → w s ⊙ (x s ⊕ ⊖ x a) ≡ 𝟘) → (s : ℕ) → s < k → s ≢ a → w s ≡ 𝟘
      other peeled s m n = no_divisor W (w s) (x s ⊕ ⊖ x a) (peeled s m) (λ e. apart s a m (All-head (λ s. s < k) a A below) n (equal W (x s) (x a) e))

  pub less_term : (a b p : C) → (a ⊕ ⊖ b) ⊙ p ≡ a ⊙ p ⊕ ⊖ (b ⊙ p)
  less_term a b p = simp ring

  -- the sums of a difference
  pub moment_less : (k : ℕ) (x w w' : ℕ → C) (i : ℕ) → moment k x (λ s. w s ⊕ ⊖ w' s) i ≡ moment k x w i ⊕ ⊖ moment k x w' i
  moment_less k x w w' i =
      sum_cong W k (λ s. (w s ⊕ ⊖ w' s) ⊙ power W (x s) i) (λ s. w s ⊙ power W (x s) i ⊕ ⊖ (w' s ⊙ power W (x s) i)) (λ s _. less_term (w s) (w' s) (power W (x s) i))
      ∙ sum_add W k (λ s. w s ⊙ power W (x s) i) (λ s. ⊖ (w' s ⊙ power W (x s) i))
      ∙ ap (λ z. moment k x w i ⊕ z) (sum_neg W k (λ s. w' s ⊙ power W (x s) i))

  -- two weighings with the same first c sums
  pub same : (k c : ℕ) (x w w' : ℕ → C) → ((s t : ℕ) → s < k → t < k → s ≢ t → x s ≢ x t) → ((i : ℕ) → i < c → moment k x w i ≡ moment k x w' i)
      → (A : List ℕ) → length A ≤ c → All (λ s. s < k) A → ((s : ℕ) → s < k → (w s ≡ w' s) ⊎ Contains A s) → (t : ℕ) → t < k → w t ≡ w' t
  same k c x w w' apart h A few below only t l =
      equal W (w t) (w' t) (nothing k c x (λ s. w s ⊕ ⊖ w' s) apart (λ i m. moment_less k x w w' i ∙ less_self W (moment k x w i) (moment k x w' i) (h i m))
      A few below (λ s m. elim (only s m) [ inl e ↦ inl (less_self W (w s) (w' s) e) | inr j ↦ inr j ]) t l)

  pub sum_first : (k : ℕ) (f : ℕ → C) → sum W (suc k) f ≡ f 0 ⊕ sum W k (λ i. f (suc i))
  unfolding sum
  sum_first zero f = add_comm W 𝟘 (f 0)
  sum_first (suc k) f = ap (λ z. z ⊕ f (suc k)) (sum_first k f) ∙ add_assoc W (f 0) (sum W k (λ i. f (suc i))) (f (suc k))

  back : (x d p : C) → d ≢ 𝟘 → (x ⊙ inv d) ⊙ d ⊙ p ≡ x ⊙ p
  back x d p n = ap (λ z. z ⊙ p) (mul_assoc W x (inv d) d ∙ ap (λ z. x ⊙ z) (mul_comm W (inv d) d ∙ mul_inv d n) ∙ mul_one W x)

  drop_first : (x a s : C) → x ⊙ (a ⊕ ⊖ a) ⊙ s ≡ 𝟘
  drop_first x a s = ap (λ z. x ⊙ z ⊙ s) (add_neg W a) ∙ simp (mul_zero, zero_mul)

  -- weights of the sums that are peeled by the first point give the weights
  pub solved : (n : ℕ) (a v y x : ℕ → C) → ((t : ℕ) → t < n → a (suc t) ≢ a 0)
      → ((i : ℕ) → i < n → moment n (λ t. a (suc t)) y i ≡ peel (a 0) v i)
      → ((t : ℕ) → t < n → x (suc t) ≡ y t ⊙ inv (a (suc t) ⊕ ⊖ a 0))
      → x 0 ≡ v 0 ⊕ ⊖ sum W n (λ t. x (suc t))
      → (i : ℕ) → i < suc n → moment (suc n) a x i ≡ v i
  unfolding power
  solved n a v y x apart peeled rest head zero l =
      sum_first n (λ t. x t ⊙ 𝟙)
      ∙ ap (λ z. x 0 ⊙ 𝟙 ⊕ z) (sum_cong W n (λ t. x (suc t) ⊙ 𝟙) (λ t. x (suc t)) (λ t _. mul_one W (x (suc t))))
      ∙ (let e = mul_one W (x 0) in let e' = add_less W (v 0) (sum W n (λ t. x (suc t))) in cc)
  solved n a v y x apart peeled rest head (suc i) l =
      let ih = solved n a v y x apart peeled rest head i (omega arith) in
      let m = moment_peel (suc n) a x (a 0) i ∙ sum_first n (λ t. x t ⊙ (a t ⊕ ⊖ a 0) ⊙ power W (a t) i) in
      let f = sum_cong W n (λ t. x (suc t) ⊙ (a (suc t) ⊕ ⊖ a 0) ⊙ power W (a (suc t)) i) (λ t. y t ⊙ power W (a (suc t)) i)
      (λ t k. ap (λ z. z ⊙ (a (suc t) ⊕ ⊖ a 0) ⊙ power W (a (suc t)) i) (rest t k) ∙ back (y t) (a (suc t) ⊕ ⊖ a 0) (power W (a (suc t)) i) (λ e. apart t k (equal W (a (suc t)) (a 0) e))) in
      let p = peeled i (omega arith) in
      let d = drop_first (x 0) (a 0) (power W (a 0) i) in
      let z = zero_add W (peel (a 0) v i) in
      let same : peel (a 0) (moment (suc n) a x) i ≡ peel (a 0) v i = cc in
      sym (add_less W (moment (suc n) a x (suc i)) (a 0 ⊙ moment (suc n) a x i)) ∙ (let r = add_less W (v (suc i)) (a 0 ⊙ v i) in cc)
