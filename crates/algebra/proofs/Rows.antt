-- One row: a word is found from its sums, its erased places and few wrong ones. Assumes nothing.
use Rattle.std.proofs.Common.{◌≡◌, ℕ, zero, suc, ◌+◌, ◌<◌, ◌≤◌, Bool, true, false, cond, not, ◌&&◌, ◌≢◌, ◌⊎◌, List, length, All, Contains, sym, refl, ap, ◌∙◌, inl, inr, arith}
use native.Mathlib.Nat as N
use native.Mathlib.Decide.{ℕ_discrete}
use Rattle.std.proofs.lemmas.Bool.{cases_Bool, cases_lt, true≢false, and_parts, not-true, cond-true, cond_both}
use Rattle.algebra.specs.Showings.{count}
use Rattle.algebra.proofs.Ring.{Whole, mul_one, one_mul, mul_assoc, mul_right_comm, sum, sum_cong, sum_scale, sum_swap, power, no_divisor, product_nonzero, zero_product, less_self, equal, ring}
use Rattle.algebra.proofs.Moments.{moment, moment_cong, moment_peel, peel, peel_zero, nothing}
use Rattle.algebra.proofs.Stages.{app}
use Rattle.algebra.proofs.Roots.{value, value_sum, roots}
use Rattle.algebra.proofs.Listing.{listed, length_listed, in_listed, from_listed}

module _ (W : Whole) where
  open W use {C, 𝟘, 𝟙, ◌⊕◌, ◌⊙◌, ⊖◌, one≢zero}

  infixl 65 ◌⊕◌
  infixl 70 ◌⊙◌
  infix 75 ⊖◌
  -- peeled by the points below j that pass
  abbrev pub struck : (ℕ → C) → (ℕ → Bool) → (ℕ → C) → ℕ → ℕ → C
  struck x p v zero i = v i
  struck x p v (suc j) i = cond (p j) (peel W (x j) (struck x p v j) i) (struck x p v j i)

  abbrev pub factor : (ℕ → C) → (ℕ → Bool) → ℕ → C → C
  factor x p zero y = 𝟙
  factor x p (suc j) y = cond (p j) (factor x p j y ⊙ (y ⊕ ⊖ x j)) (factor x p j y)

  pub struck_zero : (x : ℕ → C) (p : ℕ → Bool) (j i : ℕ) → struck x p (λ _. 𝟘) j i ≡ 𝟘
  struck_zero x p zero i = refl
  struck_zero x p (suc j) i =
      cond_both (p j) (peel W (x j) (struck x p (λ _. 𝟘) j) i) (struck x p (λ _. 𝟘) j i) (λ z. z ≡ 𝟘)
      (λ _. peel_zero W (x j) (struck x p (λ _. 𝟘) j (suc i)) (struck x p (λ _. 𝟘) j i) (struck_zero x p j (suc i)) (struck_zero x p j i)) (λ _. struck_zero x p j i)

  -- the sums of weights at the points y, peeled by the points x
  pub struck_moment : (k : ℕ) (y w : ℕ → C) (c : ℕ) (v : ℕ → C) → ((i : ℕ) → i < c → v i ≡ moment W k y w i) → (x : ℕ → C) (p : ℕ → Bool) (j i : ℕ) → i + count j p < c
      → struck x p v j i ≡ moment W k y (λ s. w s ⊙ factor x p j (y s)) i
  struck_moment k y w c v h x p zero i l = h i (omega arith) ∙ moment_cong W k y w (λ s. w s ⊙ 𝟙) i (λ s _. sym (mul_one W (w s)))
  struck_moment k y w c v h x p (suc j) i l =
      let ih = struck_moment k y w c v h x p j in
      elim (p j) as (λ b. i + (count j p + cond b 1 0) < c → cond b (peel W (x j) (struck x p v j) i) (struck x p v j i)
      ≡ moment W k y (λ s. w s ⊙ cond b (factor x p j (y s) ⊙ (y s ⊕ ⊖ x j)) (factor x p j (y s))) i) [
        | true ↦ (λ m. (let e = ih (suc i) (omega arith) in let e' = ih i (omega arith) in
            let q : peel W (x j) (struck x p v j) i ≡ peel W (x j) (moment W k y (λ s. w s ⊙ factor x p j (y s))) i = cc in q)
            ∙ moment_peel W k y (λ s. w s ⊙ factor x p j (y s)) (x j) i
            ∙ moment_cong W k y (λ s. w s ⊙ factor x p j (y s) ⊙ (y s ⊕ ⊖ x j)) (λ s. w s ⊙ (factor x p j (y s) ⊙ (y s ⊕ ⊖ x j))) i (λ s _. mul_assoc W (w s) (factor x p j (y s)) (y s ⊕ ⊖ x j)))
        | false ↦ (λ m. ih i (omega arith))
      ] l

  pub factor_zero : (x : ℕ → C) (p : ℕ → Bool) (j : ℕ) (y : C) (s : ℕ) → s < j → p s ≡ true → y ≡ x s → factor x p j y ≡ 𝟘
  factor_zero x p zero y s l e q = absurd (omega arith)
  factor_zero x p (suc j) y s l e q = elim (ℕ_discrete s j) [
    | yes r ↦ cond-true (p j) (factor x p j y ⊙ (y ⊕ ⊖ x j)) (factor x p j y) (ap p (sym r) ∙ e)
        ∙ zero_product W (factor x p j y) (y ⊕ ⊖ x j) (inr (less_self W y (x j) (q ∙ ap x r)))
    | no n ↦ (let ih = factor_zero x p j y s (omega arith) e q in
        cond_both (p j) (factor x p j y ⊙ (y ⊕ ⊖ x j)) (factor x p j y) (λ z. z ≡ 𝟘) (λ _. zero_product W (factor x p j y) (y ⊕ ⊖ x j) (inl ih)) (λ _. ih))
  ]

  pub factor_nonzero : (x : ℕ → C) (p : ℕ → Bool) (j : ℕ) (y : C) → ((s : ℕ) → s < j → p s ≡ true → y ≢ x s) → factor x p j y ≢ 𝟘
  factor_nonzero x p zero y h = one≢zero
  factor_nonzero x p (suc j) y h =
      let ih = factor_nonzero x p j y (λ s l. h s (omega arith)) in
      cond_both (p j) (factor x p j y ⊙ (y ⊕ ⊖ x j)) (factor x p j y) (λ z. z ≢ 𝟘)
      (λ e. product_nonzero W (factor x p j y) (y ⊕ ⊖ x j) ih (λ z. h j (omega arith) e (equal W y (x j) z))) (λ _. ih)

  pub power_add : (x : C) (i u : ℕ) → power W x (i + u) ≡ power W x i ⊙ power W x u
  unfolding power
  power_add x zero u = ap (power W x) (N.zero-add u) ∙ sym (one_mul W (power W x u))
  power_add x (suc i) u = ap (power W x) (N.suc-add i u) ∙ ap (λ t. x ⊙ t) (power_add x i u) ∙ sym (mul_assoc W x (power W x i) (power W x u))

  turn_term : (w p f r : C) → (w ⊙ p) ⊙ (f ⊙ r) ≡ f ⊙ (w ⊙ (p ⊙ r))
  turn_term w p f r = simp ring

  -- the weights times their values at the points have the sums that f makes of σ
  turned : (n K : ℕ) (x w σ f : ℕ → C) (i : ℕ) → ((u : ℕ) → u < K → σ (i + u) ≡ moment W n x w (i + u))
      → moment W n x (λ s. w s ⊙ value W f (x s) 0 K) i ≡ app W K σ f i
  turned n K x w σ f i h =
      sum_cong W n (λ s. w s ⊙ value W f (x s) 0 K ⊙ power W (x s) i) (λ s. sum W K (λ u. (w s ⊙ power W (x s) i) ⊙ (f (0 + u) ⊙ power W (x s) u)))
      (λ s _. mul_right_comm W (w s) (value W f (x s) 0 K) (power W (x s) i) ∙ ap (λ t. (w s ⊙ power W (x s) i) ⊙ t) (value_sum W f (x s) K 0)
      ∙ sym (sum_scale W K (w s ⊙ power W (x s) i) (λ u. f (0 + u) ⊙ power W (x s) u)))
      ∙ sum_swap W n K (λ s u. (w s ⊙ power W (x s) i) ⊙ (f (0 + u) ⊙ power W (x s) u))
      ∙ sum_cong W K (λ u. sum W n (λ s. (w s ⊙ power W (x s) i) ⊙ (f (0 + u) ⊙ power W (x s) u))) (λ u. f u ⊙ σ (i + u))
      (λ u l. sum_cong W n (λ s. (w s ⊙ power W (x s) i) ⊙ (f (0 + u) ⊙ power W (x s) u)) (λ s. f u ⊙ (w s ⊙ power W (x s) (i + u)))
      (λ s _. ap (λ k. (w s ⊙ power W (x s) i) ⊙ (f k ⊙ power W (x s) u)) (N.zero-add u) ∙ turn_term (w s) (power W (x s) i) (f u) (power W (x s) u) ∙ ap (λ t. f u ⊙ (w s ⊙ t)) (sym (power_add (x s) i u)))
      ∙ sum_scale W n (f u) (λ s. w s ⊙ power W (x s) (i + u)) ∙ ap (λ t. f u ⊙ t) (sym (h u l)))

  pub located : (n t : ℕ) (x w σ f : ℕ → C) → ((i j : ℕ) → i < n → j < n → i ≢ j → x i ≢ x j) → ((i : ℕ) → i < t + t → σ i ≡ moment W n x w i)
      → ((i : ℕ) → i < t → app W (suc t) σ f i ≡ 𝟘) → (js : List ℕ) → length js ≤ t → All (λ s. s < n) js → ((s : ℕ) → s < n → (w s ≡ 𝟘) ⊎ Contains js s)
      → (s : ℕ) → s < n → w s ⊙ value W f (x s) 0 (suc t) ≡ 𝟘
  located n t x w σ f apart sums none js few below only =
      nothing W n t x (λ s. w s ⊙ value W f (x s) 0 (suc t)) apart
      (λ i l. turned n (suc t) x w σ f i (λ u m. sums (i + u) (omega arith)) ∙ none i l)
      js few below (λ s l. elim (only s l) [ inl e ↦ inl (zero_product W (w s) (value W f (x s) 0 (suc t)) (inl e)) | inr i ↦ inr i ])

  -- the answer y is the word e
  module _ (n c t : ℕ) (x e v σ f : ℕ → C) (gone wrong mask : ℕ → Bool) (apart : (i j : ℕ) → i < n → j < n → i ≢ j → x i ≢ x j)
      (sums : (i : ℕ) → i < c → v i ≡ moment W n x e i)
      (only : (j : ℕ) → j < n → gone j ≡ false → wrong j ≡ false → e j ≡ 𝟘)
      (room : t + t + count n gone ≤ c) (wrong_few : count n wrong ≤ t)
      (σ_is : (i : ℕ) → i < t + t → σ i ≡ struck x gone v n i)
      (none : (i : ℕ) → i < t → app W (suc t) σ f i ≡ 𝟘)
      (masked : (j : ℕ) → j < n → mask j ≡ false → (gone j ≡ false) × (value W f (x j) 0 (suc t) ≢ 𝟘)) where
    w : ℕ → C
    w j = e j ⊙ factor x gone n (x j)

    only_w : (j : ℕ) → j < n → (w j ≡ 𝟘) ⊎ Contains (listed n wrong) j
    unfolding w
    only_w j l = elim (cases_Bool (gone j)) [
      | inl g ↦ inl (zero_product W (e j) (factor x gone n (x j)) (inr (factor_zero x gone n (x j) j l g refl)))
      | inr g ↦ elim (cases_Bool (wrong j)) [
        | inl h ↦ inr (in_listed n wrong j l h)
        | inr h ↦ inl (zero_product W (e j) (factor x gone n (x j)) (inl (only j l g h)))
      ]
    ]

    pub outside : (j : ℕ) → j < n → mask j ≡ false → e j ≡ 𝟘
    unfolding w
    outside j l m =
        let z = located n t x w σ f apart (λ i k. σ_is i k ∙ struck_moment n x e c v sums x gone n i (omega arith)) none
        (listed n wrong) (omega (arith, length_listed n wrong)) (from_listed n wrong) only_w j l in
        let z' = no_divisor W (w j) (value W f (x j) 0 (suc t)) z (masked j l m).1 in
        no_divisor W (e j) (factor x gone n (x j)) z'
        (factor_nonzero x gone n (x j) (λ s k g. apart j s l k (λ q. true≢false (sym g ∙ ap gone (sym q) ∙ (masked j l m).0))))

  -- fewer roots than weights: the mask is small
  pub mask_few : (n t u : ℕ) (x f : ℕ → C) (gone mask : ℕ → Bool) → ((i j : ℕ) → i < n → j < n → i ≢ j → x i ≢ x j) → u < suc t → f u ≢ 𝟘
      → ((j : ℕ) → j < n → mask j ≡ true → gone j ≡ false → value W f (x j) 0 (suc t) ≡ 𝟘) → count n mask ≤ t + count n gone
  mask_few n t u x f gone mask apart l some zeros =
      elim (cases_lt t (count n (λ j. mask j && not (gone j)))) [
        | inl more ↦ absurd (some (roots W n (suc t) x f (λ j. mask j && not (gone j)) apart more
            (λ j m h. let parts = and_parts (mask j) (not (gone j)) h in zeros j m parts.0 (not-true (gone j) parts.1)) u l))
        | inr few ↦ omega (arith, split n)
      ]
    where
      split : (k : ℕ) → count k mask ≤ count k (λ j. mask j && not (gone j)) + count k gone
      split zero = omega arith
      split (suc k) = let ih = split k in
          elim (mask k) as (λ a. count k mask + cond a 1 0 ≤ count k (λ j. mask j && not (gone j)) + cond (a && not (gone k)) 1 0 + (count k gone + cond (gone k) 1 0)) [
            | true ↦ elim (gone k) as (λ b. count k mask + 1 ≤ count k (λ j. mask j && not (gone j)) + cond (not b) 1 0 + (count k gone + cond b 1 0)) [ true ↦ omega arith | false ↦ omega arith ]
            | false ↦ omega arith
          ]
