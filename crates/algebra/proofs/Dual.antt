-- Words whose check sums are all zero, and the uniqueness of frames, over any field. Assumes nothing.
use Rattle.std.proofs.Common.{◌≡◌, ℕ, ◌+◌, ◌*◌, ◌/◌, ◌<◌, ◌≤◌, Bool, false, ◌≢◌, sym, refl, ap, ◌∙◌, inl, inr, ◌⊎◌, Contains, ◌%◌, mod-lt, div-add-mod', div-lt_iff_lt-mul, arith}
use lib.Arith.{digits_lt, digits_div}
use Rattle.std.proofs.lemmas.Bool.{cases_Bool, true≢false}
use Rattle.algebra.specs.Showings.{count}
use Rattle.algebra.proofs.Ring.{Whole, mul_one, mul_right_comm, zero_product, no_divisor, less_self, zero_mul, sum_cong, sum_zero, power}
use Rattle.algebra.proofs.Moments.{moment, nothing}
use Rattle.algebra.proofs.Rows.{factor, struck_zero, struck_moment, factor_zero, factor_nonzero}
use Rattle.algebra.proofs.Listing.{listed, length_listed, in_listed, from_listed}
use Rattle.algebra.proofs.Squares.{check, check_less, column, column_zero, strip_row, strip_same}

-- n strips of m squares, with the points α of the strips and β of the squares; c sums for each of m rows
module _ (W : Whole) (n m c : ℕ) (α β : ℕ → W.C) where
  open W use {C, 𝟘, 𝟙, ◌⊕◌, ◌⊙◌, ⊖◌}

  infixl 65 ◌⊕◌
  infixl 70 ◌⊙◌
  infix 75 ⊖◌
  abbrev pub Balanced : (ℕ → C) → Type 0
  Balanced e = (h i : ℕ) → h < m → i < c → check W n m α β e h i ≡ 𝟘

  pub difference : (x y : ℕ → C) → Balanced x → Balanced y → Balanced (λ s. x s ⊕ ⊖ y s)
  difference x y b b' h i lh li =
      check_less W n m α β x y h i ∙ less_self W (check W n m α β x h i) (check W n m α β y h i) (b h i lh li ∙ sym (b' h i lh li))

  module _ (pos : 0 < m) (α_apart : (i j : ℕ) → i < n → j < n → i ≢ j → α i ≢ α j) (β_apart : (s t : ℕ) → s < n * m → t < n * m → s ≢ t → β s ≢ β t)
      (e : ℕ → C) (balanced : Balanced e) where
    -- only squares of c strips: the strips' sums are zero, and then the squares are
    pub in_strips : (A : ℕ → Bool) → count n A ≤ c → ((p : ℕ) → p < n * m → A (p / m) ≡ false → e p ≡ 𝟘) → (p : ℕ) → p < n * m → e p ≡ 𝟘
    in_strips A few only p l =
        let lj : p / m < n = (div-lt_iff_lt-mul pos).1 l in
        rw (← div-add-mod' p m) (strip_zero (p / m) lj (p % m) (mod-lt p pos))
      where
        column_none : (h j : ℕ) → h < m → j < n → column W n m α β e (λ p. power W (β p) h) j ≡ 𝟘
        column_none h j lh lj =
            nothing W n c α (column W n m α β e (λ p. power W (β p) h)) α_apart (λ i li. sym (strip_row W n m α β e h i) ∙ balanced h i lh li)
            (listed n A) (omega (arith, length_listed n A)) (from_listed n A)
            (λ j l. elim (cases_Bool (A j)) [
              | inl a ↦ inr (in_listed n A j l a)
              | inr a ↦ inl (column_zero W n m α β e (λ p. power W (β p) h) j (λ κ k. inl (only (j * m + κ) (digits_lt l k) (ap A (digits_div j k) ∙ a))))
            ]) j lj

        strip_zero : (j : ℕ) → j < n → (κ : ℕ) → κ < m → e (j * m + κ) ≡ 𝟘
        strip_zero j lj κ k = sym (strip_same W n m α β e j (λ _. 𝟘)
            (λ κ κ' k k' ne. β_apart (j * m + κ) (j * m + κ') (digits_lt lj k) (digits_lt lj k') (λ q. ne (omega arith)))
            (λ h lh. sum_zero W m (λ κ. 𝟘 ⊙ power W (β (j * m + κ)) h) (λ κ k. zero_mul W (power W (β (j * m + κ)) h)) ∙ sym (column_none h j lh lj)) κ k)

    -- fewer than c strips, and m squares more: peeled by the strips, the sums are those of the squares
    pub beside_strips : (A N : ℕ → Bool) → count n A < c → count (n * m) N ≤ m → ((p : ℕ) → p < n * m → A (p / m) ≡ false → N p ≡ false → e p ≡ 𝟘)
        → (p : ℕ) → p < n * m → A (p / m) ≡ false → e p ≡ 𝟘
    unfolding power
    beside_strips A N few_a few_n only p l a =
        no_divisor W (e p) (u p)
        (nothing W (n * m) m β (λ p. e p ⊙ u p) β_apart sums (listed (n * m) N) (omega (arith, length_listed (n * m) N)) (from_listed (n * m) N) places p l)
        (factor_nonzero W α A n (α (p / m)) (λ j lj b. α_apart (p / m) j ((div-lt_iff_lt-mul pos).1 l) lj (λ q. true≢false (sym b ∙ ap A (sym q) ∙ a))))
      where
        u : ℕ → C
        u p = factor W α A n (α (p / m))

        sums : (h : ℕ) → h < m → moment W (n * m) β (λ p. e p ⊙ u p) h ≡ 𝟘
        sums h lh =
            sum_cong W (n * m) (λ p. e p ⊙ u p ⊙ power W (β p) h) (λ p. e p ⊙ power W (β p) h ⊙ u p ⊙ 𝟙) (λ p _. mul_right_comm W (e p) (u p) (power W (β p) h) ∙ sym (mul_one W (e p ⊙ power W (β p) h ⊙ u p)))
            ∙ sym (struck_moment W (n * m) (λ p. α (p / m)) (λ p. e p ⊙ power W (β p) h) c (λ _. 𝟘)
            (λ i li. sym (balanced h i lh li) ∙ sum_cong W (n * m) (λ p. e p ⊙ power W (α (p / m)) i ⊙ power W (β p) h) (λ p. e p ⊙ power W (β p) h ⊙ power W (α (p / m)) i)
            (λ p _. mul_right_comm W (e p) (power W (α (p / m)) i) (power W (β p) h)))
            α A n 0 (omega arith))
            ∙ struck_zero W α A n 0

        places : (p : ℕ) → p < n * m → (e p ⊙ u p ≡ 𝟘) ⊎ Contains (listed (n * m) N) p
        places p l = elim (cases_Bool (A (p / m))) [
          | inl b ↦ inl (zero_product W (e p) (u p) (inr (factor_zero W α A n (α (p / m)) (p / m) ((div-lt_iff_lt-mul pos).1 l) b refl)))
          | inr b ↦ elim (cases_Bool (N p)) [
            | inl d ↦ inr (in_listed (n * m) N p l d)
            | inr d ↦ inl (zero_product W (e p) (u p) (inl (only p l b d)))
          ]
        ]

    pub unique : (A N : ℕ → Bool) → count n A < c → count (n * m) N ≤ m → ((p : ℕ) → p < n * m → A (p / m) ≡ false → N p ≡ false → e p ≡ 𝟘)
        → (p : ℕ) → p < n * m → e p ≡ 𝟘
    unique A N few_a few_n only = in_strips A (omega arith) (beside_strips A N few_a few_n only)
