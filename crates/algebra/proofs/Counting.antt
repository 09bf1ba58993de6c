-- How many pass, by induction on how many are looked at. Assumes nothing.
use Rattle.std.proofs.Common.{◌≡◌, ℕ, zero, suc, ◌+◌, ◌-◌, ◌<◌, ◌≤◌, Bool, true, false, cond, ◌||◌, leb, refl, ap, ◌∙◌, inl, inr, add-zero, arith}
use Rattle.std.proofs.lemmas.Bool.{cases_eq}
use Rattle.std.proofs.lemmas.Bool.Decides.{leb_tells}
use Rattle.algebra.specs.Showings.{count}

module _ (p : ℕ → Bool) where
  pub count_true : (j : ℕ) → p j ≡ true → count (suc j) p ≡ count j p + 1
  count_true j e = ap (λ b. count j p + cond b 1 0) e

  pub count_false : (j : ℕ) → p j ≡ false → count (suc j) p ≡ count j p
  count_false j e = ap (λ b. count j p + cond b 1 0) e ∙ add-zero (count j p)

  pub count_mono : (j n : ℕ) → j ≤ n → count j p ≤ count n p
  count_mono j zero l = rw (let e : j ≡ 0 = omega arith in e) (omega arith)
  count_mono j (suc n) l = elim (cases_eq j (suc n)) [ inl e ↦ rw e (omega arith) | inr d ↦ omega (arith, count_mono j n (omega arith)) ]

  pub count_room : (j n : ℕ) → j < n → p j ≡ true → count j p < count n p
  count_room j n l e = omega (arith, count_mono (suc j) n l, count_true j e)

  pub count_le : (n : ℕ) → count n p ≤ n
  count_le zero = omega arith
  count_le (suc n) = let ih = count_le n in elim (p n) as (λ b. count n p + cond b 1 0 ≤ suc n) [ true ↦ omega arith | false ↦ omega arith ]

pub count_none : (k : ℕ) (t : ℕ → Bool) → ((i : ℕ) → i < k → t i ≡ false) → count k t ≡ 0
count_none zero t h = refl
count_none (suc k) t h = let ih = count_none k t (λ i l. h i (omega arith)) in rw (h k (omega arith)) (omega arith)

pub count_cong : (k : ℕ) (p q : ℕ → Bool) → ((i : ℕ) → i < k → p i ≡ q i) → count k p ≡ count k q
count_cong zero p q h = refl
count_cong (suc k) p q h = let ih = count_cong k p q (λ i l. h i (omega arith)) in rw (h k (omega arith)) (omega arith)

-- what passes one of two tests
pub count_or : (k : ℕ) (p q : ℕ → Bool) → count k (λ i. p i || q i) ≤ count k p + count k q
count_or zero p q = omega arith
count_or (suc k) p q = let ih = count_or k p q in
    elim (p k) as (λ a. count k (λ i. p i || q i) + cond (a || q k) 1 0 ≤ count k p + cond a 1 0 + (count k q + cond (q k) 1 0)) [
      | true ↦ omega arith
      | false ↦ omega arith
    ]

-- the numbers from a on
pub count_from : (a k : ℕ) → count k (leb a) ≤ k - a
count_from a zero = omega arith
count_from a (suc k) = let ih = count_from a k in elim (leb_tells a k) [
  | inl e ↦ rw e.0 (let l = e.1 in omega arith)
  | inr e ↦ rw e.0 (let l = e.1 in omega arith)
]
