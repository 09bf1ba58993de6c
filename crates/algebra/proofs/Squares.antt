-- One showing: the doubtful squares one by one, then the strips. Assumes nothing.
use Rattle.std.proofs.Common.{◌≡◌, ℕ, ◌+◌, ◌*◌, ◌/◌, ◌%◌, ◌<◌, ◌≤◌, Bool, true, false, cond, eqb, ◌≢◌, ◌⊎◌, sym, refl, ap, ◌∙◌, inl, inr, mod-lt, div-lt_iff_lt-mul, div-add-mod', arith, eq-eqb}
use native.Mathlib.Nat as N
use lib.Arith.{digits_lt, digits_div}
use Rattle.std.specs.List.{range_with_len}
use Rattle.std.proofs.lemmas.Bool.{cases_eq, ne_eqb, cond-true, cond-false}
use Rattle.std.proofs.lemmas.List.FromFn.{length-range_with_len, get_or-range_with_len}
use Rattle.algebra.specs.Showings.{count}
use Rattle.algebra.proofs.Counting.{count_le}
use Rattle.algebra.proofs.Ring.{Whole, less_none, mul_one, mul_assoc, mul_comm, zero_mul, zero_product, sum, sum_cong, sum_zero, sum_scale, sum_one, sum_rows, power, ring}
use Rattle.algebra.proofs.Moments.{moment, moment_cong, moment_less, less_term, same}
use Rattle.algebra.proofs.Rows.{struck, factor, struck_moment, factor_zero, factor_nonzero}

module _ (W : Whole) (n m : ℕ) (α β : ℕ → W.C) where
  open W use {C, 𝟘, 𝟙, ◌⊕◌, ◌⊙◌, ⊖◌, inv, mul_inv}

  infixl 65 ◌⊕◌
  infixl 70 ◌⊙◌
  infix 75 ⊖◌
  -- the sum of exponents h and i of the word e
  abbrev pub check : (ℕ → C) → ℕ → ℕ → C
  check e h i = moment W (n * m) β (λ p. e p ⊙ power W (α (p / m)) i) h

  -- the words of a strip, weighed by u
  abbrev pub column : (ℕ → C) → (ℕ → C) → ℕ → C
  column e u j = sum W m (λ κ. e (j * m + κ) ⊙ u (j * m + κ))

  swap_term : (e a u : C) → e ⊙ a ⊙ u ≡ a ⊙ (e ⊙ u)
  swap_term e a u = simp ring

  pub regroup : (e u : ℕ → C) (i : ℕ) → sum W (n * m) (λ p. e p ⊙ power W (α (p / m)) i ⊙ u p) ≡ moment W n α (column e u) i
  regroup e u i =
      sum_rows W n m (λ p. e p ⊙ power W (α (p / m)) i ⊙ u p)
      ∙ sum_cong W n (λ j. sum W m (λ κ. e (j * m + κ) ⊙ power W (α ((j * m + κ) / m)) i ⊙ u (j * m + κ))) (λ j. column e u j ⊙ power W (α j) i)
      (λ j _. sum_cong W m (λ κ. e (j * m + κ) ⊙ power W (α ((j * m + κ) / m)) i ⊙ u (j * m + κ)) (λ κ. power W (α j) i ⊙ (e (j * m + κ) ⊙ u (j * m + κ)))
      (λ κ l. ap (λ s. e (j * m + κ) ⊙ power W (α s) i ⊙ u (j * m + κ)) (digits_div j l) ∙ swap_term (e (j * m + κ)) (power W (α j) i) (u (j * m + κ)))
      ∙ sum_scale W m (power W (α j) i) (λ κ. e (j * m + κ) ⊙ u (j * m + κ)) ∙ mul_comm W (power W (α j) i) (column e u j))

  -- peeled by the first r of the points y, a row of sums is that of a word of one code to a strip
  pub peeled_row : (e : ℕ → C) (T : ℕ → ℕ → C) (c : ℕ) → ((h i : ℕ) → h < m → i < c → T h i ≡ check e h i) → (y : ℕ → C) (r : ℕ) → r < m
      → (i : ℕ) → i < c → struck W y (λ _. true) (λ h. T h i) r 0 ≡ moment W n α (column e (λ p. factor W y (λ _. true) r (β p))) i
  unfolding power
  peeled_row e T c is y r few i l =
      struck_moment W (n * m) β (λ p. e p ⊙ power W (α (p / m)) i) m (λ h. T h i) (λ h k. is h i k l) y (λ _. true) r 0 (omega (arith, count_le (λ _. true) r))
      ∙ sum_cong W (n * m) (λ p. e p ⊙ power W (α (p / m)) i ⊙ u p ⊙ 𝟙) (λ p. e p ⊙ power W (α (p / m)) i ⊙ u p) (λ p _. mul_one W (e p ⊙ power W (α (p / m)) i ⊙ u p))
      ∙ regroup e u i
    where
      u : ℕ → C
      u p = factor W y (λ _. true) r (β p)

  -- a strip where each word is right or weighs nothing
  pub column_zero : (e u : ℕ → C) (j : ℕ) → ((κ : ℕ) → κ < m → (e (j * m + κ) ≡ 𝟘) ⊎ (u (j * m + κ) ≡ 𝟘)) → column e u j ≡ 𝟘
  column_zero e u j h = sum_zero W m (λ κ. e (j * m + κ) ⊙ u (j * m + κ)) (λ κ l. zero_product W (e (j * m + κ)) (u (j * m + κ)) (h κ l))

  -- a strip where each word but one is
  pub column_one : (e u : ℕ → C) (j κ : ℕ) → κ < m → ((κ' : ℕ) → κ' < m → κ' ≢ κ → (e (j * m + κ') ≡ 𝟘) ⊎ (u (j * m + κ') ≡ 𝟘))
      → column e u j ≡ e (j * m + κ) ⊙ u (j * m + κ)
  column_one e u j κ l h = sum_one W m κ (λ κ. e (j * m + κ) ⊙ u (j * m + κ)) l (λ κ' k ne. zero_product W (e (j * m + κ')) (u (j * m + κ')) (h κ' k ne))

  -- the sums of a difference
  pub check_less : (e d : ℕ → C) (h i : ℕ) → check (λ p. e p ⊕ ⊖ d p) h i ≡ check e h i ⊕ ⊖ check d h i
  check_less e d h i =
      moment_cong W (n * m) β (λ p. (e p ⊕ ⊖ d p) ⊙ power W (α (p / m)) i) (λ p. e p ⊙ power W (α (p / m)) i ⊕ ⊖ (d p ⊙ power W (α (p / m)) i)) h
      (λ p _. less_term W (e p) (d p) (power W (α (p / m)) i))
      ∙ moment_less W (n * m) β (λ p. e p ⊙ power W (α (p / m)) i) (λ p. d p ⊙ power W (α (p / m)) i) h

  -- one square of the word changed by x
  pub take_out : (e e' : ℕ → C) (s : ℕ) (x : C) → s < n * m → e' s ≡ e s ⊕ ⊖ x → ((p : ℕ) → p < n * m → p ≢ s → e' p ≡ e p)
      → (h i : ℕ) → check e' h i ≡ check e h i ⊕ ⊖ (x ⊙ power W (α (s / m)) i ⊙ power W (β s) h)
  take_out e e' s x l at other h i =
      moment_cong W (n * m) β (λ p. e' p ⊙ power W (α (p / m)) i) (λ p. (e p ⊕ ⊖ off p) ⊙ power W (α (p / m)) i) h (λ p k. ap (λ t. t ⊙ power W (α (p / m)) i) (changed p k))
      ∙ check_less e off h i
      ∙ ap (λ t. check e h i ⊕ ⊖ t) (sum_one W (n * m) s part l (λ p k ne. part_of p 𝟘 (off_other p ne) ∙ nil p) ∙ part_of s x off_here)
    where
      off : ℕ → C
      off p = cond (eqb p s) x 𝟘

      off_here : off s ≡ x
      off_here = cond-true (eqb s s) x 𝟘 (eq-eqb s s refl)

      off_other : (p : ℕ) → p ≢ s → off p ≡ 𝟘
      off_other p ne = cond-false (eqb p s) x 𝟘 (ne_eqb p s ne)

      part : ℕ → C
      part p = off p ⊙ power W (α (p / m)) i ⊙ power W (β p) h

      part_of : (p : ℕ) (z : C) → off p ≡ z → part p ≡ z ⊙ power W (α (p / m)) i ⊙ power W (β p) h
      part_of p z e = ap (λ t. t ⊙ power W (α (p / m)) i ⊙ power W (β p) h) e

      nil : (p : ℕ) → 𝟘 ⊙ power W (α (p / m)) i ⊙ power W (β p) h ≡ 𝟘
      nil p = simp zero_mul

      changed : (p : ℕ) → p < n * m → e' p ≡ e p ⊕ ⊖ off p
      changed p k = elim (cases_eq p s) [
        | inl q ↦ rw q (at ∙ ap (λ t. e s ⊕ ⊖ t) (sym off_here))
        | inr ne ↦ other p k ne ∙ sym (less_none W (e p) (off p) (off_other p ne))
      ]

  -- a row of sums is that of the strips' sums
  pub strip_row : (e : ℕ → C) (h i : ℕ) → check e h i ≡ moment W n α (column e (λ p. power W (β p) h)) i
  strip_row e h i = regroup e (λ p. power W (β p) h) i

  -- a strip is what its sums say
  pub strip_same : (e : ℕ → C) (j : ℕ) (x : ℕ → C) → ((κ κ' : ℕ) → κ < m → κ' < m → κ ≢ κ' → β (j * m + κ) ≢ β (j * m + κ'))
      → ((h : ℕ) → h < m → moment W m (λ κ. β (j * m + κ)) x h ≡ column e (λ p. power W (β p) h) j) → (κ : ℕ) → κ < m → x κ ≡ e (j * m + κ)
  strip_same e j x apart sums = same W m m (λ κ. β (j * m + κ)) x (λ κ. e (j * m + κ)) apart sums
      (range_with_len 0 m) (omega (arith, length-range_with_len 0 m)) (λ s d l. let k : s < m = omega (arith, length-range_with_len 0 m) in omega (arith, get_or-range_with_len 0 m s d k))
      (λ s l. inr (s, omega (arith, length-range_with_len 0 m), get_or-range_with_len 0 m s s l ∙ N.zero-add s))

  -- outside the strips that are gone or wrong, e is zero but at listed places
  abbrev pub Support : (ℕ → C) → (ℕ → Bool) → (ℕ → Bool) → (ℕ → Type 0) → Type 0
  Support e gone wrong listed = (p : ℕ) → p < n * m → gone (p / m) ≡ false → wrong (p / m) ≡ false → (e p ≡ 𝟘) ⊎ listed p

  -- y is each word with the sums v that is zero but for the places `gone` and a few wrong ones
  abbrev pub Answer : ℕ → (ℕ → Bool) → (ℕ → C) → (ℕ → C) → Type 0
  Answer c gone v y = (wrong : ℕ → Bool) (w : ℕ → C) → ((i : ℕ) → i < c → v i ≡ moment W n α w i) → ((j : ℕ) → j < n → gone j ≡ false → wrong j ≡ false → w j ≡ 𝟘)
      → 2 * count n wrong + count n gone ≤ c → (j : ℕ) → j < n → y j ≡ w j

  module _ (pos : 0 < m) (c : ℕ) (gone wrong : ℕ → Bool) (e : ℕ → C) (T : ℕ → ℕ → C) (is : (h i : ℕ) → h < m → i < c → T h i ≡ check e h i) where
    -- square κ of a strip that is neither gone nor wrong
    clean : (listed : ℕ → Type 0) → Support e gone wrong listed → (j κ : ℕ) → j < n → κ < m → gone j ≡ false → wrong j ≡ false → (e (j * m + κ) ≡ 𝟘) ⊎ listed (j * m + κ)
    clean listed support j κ l k g w = support (j * m + κ) (digits_lt l k) (ap gone (digits_div j k) ∙ g) (ap wrong (digits_div j k) ∙ w)

    -- one doubtful square: its error, if its strip is neither gone nor wrong; the squares f are the other doubtful ones
    pub doubt : (s : ℕ) (f : ℕ → ℕ) (r : ℕ) → s < n * m → Support e gone wrong (λ p. (p ≡ s) ⊎ ((t : ℕ) × (t < r) × (f t ≡ p))) → r < m → ((t : ℕ) → t < r → β s ≢ β (f t))
        → (gone' : ℕ → Bool) → ((j : ℕ) → j < n → gone' j ≡ false → (gone j ≡ false) × (j ≢ s / m)) → 2 * count n wrong + count n gone' ≤ c
        → (y : ℕ → C) → Answer c gone' (λ i. struck W (λ t. β (f t)) (λ _. true) (λ h. T h i) r 0) y
        → gone (s / m) ≡ false → wrong (s / m) ≡ false → y (s / m) ⊙ inv (factor W (λ t. β (f t)) (λ _. true) r (β s)) ≡ e s
    doubt s f r l support few apart gone' gone'_is room y answer g w =
        let j = s / m in
        let κ = s % m in
        let at : j * m + κ ≡ s = div-add-mod' s m in
        let lj : j < n = (div-lt_iff_lt-mul pos).1 l in
        let yj = answer wrong (column e u) (λ i k. peeled_row e T c is (λ t. β (f t)) r few i k) zeros room j lj in
        let col = column_one e u j κ (mod-lt s pos) (λ κ' k ne. elim (clean (λ p. (p ≡ s) ⊎ ((t : ℕ) × (t < r) × (f t ≡ p))) support j κ' lj k g w) [
          | inl z ↦ inl z
          | inr (inl q) ↦ absurd (ne (omega arith))
          | inr (inr i) ↦ inr (u_zero (j * m + κ') i)
        ]) in
        let full = yj ∙ col ∙ ap (λ p. e p ⊙ u p) at in
        ap (λ t. t ⊙ inv (u s)) full ∙ mul_assoc W (e s) (u s) (inv (u s))
        ∙ ap (λ t. e s ⊙ t) (mul_inv (u s) (factor_nonzero W (λ t. β (f t)) (λ _. true) r (β s) (λ t k _. apart t k))) ∙ mul_one W (e s)
      where
        u : ℕ → C
        u p = factor W (λ t. β (f t)) (λ _. true) r (β p)

        u_zero : (p : ℕ) → (t : ℕ) × (t < r) × (f t ≡ p) → u p ≡ 𝟘
        u_zero p i = factor_zero W (λ t. β (f t)) (λ _. true) r (β p) i.0 i.1 refl (ap β (sym i.2))

        zeros : (j : ℕ) → j < n → gone' j ≡ false → wrong j ≡ false → column e u j ≡ 𝟘
        zeros j lj g w = column_zero e u j (λ κ k. elim (clean (λ p. (p ≡ s) ⊎ ((t : ℕ) × (t < r) × (f t ≡ p))) support j κ lj k (gone'_is j lj g).0 w) [
          | inl z ↦ inl z
          | inr (inl q) ↦ absurd ((gone'_is j lj g).1 (sym (digits_div j k) ∙ ap (λ p. p / m) q))
          | inr (inr i) ↦ inr (u_zero (j * m + κ) i)
        ])

    -- no doubtful square left: the rows give the strips' sums, and these the strips
    pub strips : Support e gone wrong (λ _. ⊥) → 2 * count n wrong + count n gone ≤ c → (y : ℕ → ℕ → C) → ((h : ℕ) → h < m → Answer c gone (λ i. T h i) (y h))
        → (j : ℕ) → j < n → (x : ℕ → C) → ((κ κ' : ℕ) → κ < m → κ' < m → κ ≢ κ' → β (j * m + κ) ≢ β (j * m + κ'))
        → ((h : ℕ) → h < m → moment W m (λ κ. β (j * m + κ)) x h ≡ y h j) → (κ : ℕ) → κ < m → x κ ≡ e (j * m + κ)
    strips support room y answers j l x apart sums = strip_same e j x apart
        (λ h k. sums h k ∙ answers h k wrong (column e (λ p. power W (β p) h)) (λ i q. is h i k q ∙ strip_row e h i)
        (λ j lj g w. column_zero e (λ p. power W (β p) h) j (λ κ k. elim (clean (λ _. ⊥) support j κ lj k g w) [ inl z ↦ inl z | inr z ↦ absurd z ])) room j l)
