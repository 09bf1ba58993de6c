-- A row on codes: where a word may be wrong, and what it is. Assumes nothing.
use Rattle.std.proofs.Common.{◌≡◌, ℕ, zero, suc, ◌+◌, ◌<◌, ◌≤◌, Bool, true, false, cond, ◌≢◌, List, length, get_or, sym, refl, ap, ◌∙◌, inl, inr, add-one, arith}
use Prim.Native.Nat.{Fin}
use native.Mathlib.Nat as N
use Rattle.std.proofs.lemmas.Bool.{cases_Bool}
use Rattle.laws.specs.Ops.{Ops, Laws, power as power_f, sum as sum_f}
use Rattle.algebra.specs.Showings.{count}
use Rattle.algebra.proofs.Ring.{zero_mul}
use Rattle.algebra.proofs.Codes.{codes, at, at_code, sum_code}
use Rattle.algebra.proofs.Moments as M
use Rattle.algebra.proofs.Roots as R
use Rattle.algebra.proofs.Rows as Q
use Rattle.algebra.proofs.Listing.{listed, length_listed, in_listed, from_listed}
use Rattle.refusal.specs.Codes.{Below}
use Rattle.laws.specs.Ops.{less}
use Rattle.solver.specs.Sums.{Apart, marked, struck, value, moment, Choice, Row, Word, Located, Restored, Kernel}
use Rattle.solver.proofs.Solving.{moment_val}
use Rattle.solver.proofs.Kernels.{cond_val, app_val}
use Rattle.solver.proofs.Parts.{power_code, sum_cong}
use Rattle.solver.proofs.Ranks.{select}

module _ (F : Ops) (L : Laws F) where
  struck_val : (points : List ℕ) (gone : List Bool) (vs : List ℕ) (bp : Below F.order points) (bv : Below F.order vs) (j i : ℕ)
      → (Q.struck (codes F L) (at F L points bp) (marked gone) (at F L vs bv) j i).0 ≡ struck F points gone vs j i
  struck_val points gone vs bp bv zero i = refl
  struck_val points gone vs bp bv (suc j) i =
      let a = struck_val points gone vs bp bv j (suc i) in
      let b = struck_val points gone vs bp bv j i in
      cond_val (marked gone j) (M.peel (codes F L) (at F L points bp j) (Q.struck (codes F L) (at F L points bp) (marked gone) (at F L vs bv) j) i) (Q.struck (codes F L) (at F L points bp) (marked gone) (at F L vs bv) j i)
      ∙ cc

  value_val : (ws : List ℕ) (bw : Below F.order ws) (x : Fin F.order) (m k : ℕ) → (R.value (codes F L) (at F L ws bw) x k m).0 ≡ value F ws x.0 k m
  value_val ws bw x zero k = refl
  value_val ws bw x (suc m) k = ap (λ z. F.add (get_or ws k 0) (F.mul x.0 z)) (value_val ws bw x m (suc k))

  pub apart_codes : (points : List ℕ) (bp : Below F.order points) → Apart points → (i j : ℕ) → i < length points → j < length points → i ≢ j → at F L points bp i ≢ at F L points bp j
  apart_codes points bp h i j li lj n e = n (h i j li lj (ap (λ z. z.0) e))

  module _ (points sums : List ℕ) (gone : List Bool) (row : Row F points sums gone) (vs S ws : List ℕ) (mask : List Bool) (t : ℕ)
      (bv : Below F.order vs) (vs_is : (i : ℕ) → i < length sums → get_or vs i 0 ≡ get_or sums i 0)
      (room : t + t + count (length points) (marked gone) ≤ length sums) (wide : length sums ≤ suc (t + t + count (length points) (marked gone)))
      (b_s : Below F.order S) (S_is : (i : ℕ) → i < t + t → get_or S i 0 ≡ struck F points gone vs (length points) i)
      (ker : Kernel F t S ws) (chosen : (j : ℕ) → j < length points → Choice F points gone ws (suc t) mask j) where
    pub located_codes : Located F points sums gone mask
    located_codes = record {
      few = (let m = Q.mask_few (codes F L) n t ker.lead x f (marked gone) (marked mask) apart (omega (arith, ker.lead_less))
          (λ e. let z : ◌≡◌ {A = ℕ} 1 0 = sym ker.lead_one ∙ ap (λ z. z.0) e in omega arith)
          (λ j l m g. native.Mathlib.Fin.val_path (value_val ws ker.below (x j) (suc t) 0 ∙ (chosen j l).root m g)) in omega arith);
      zeros = λ wrong e word j l m. ap (λ z. z.0) (Q.outside (codes F L) n (length sums) t x (at F L e word.below) (at F L vs bv) (at F L S b_s) f
          (marked gone) wrong (marked mask) apart
          (λ i k. native.Mathlib.Fin.val_path (vs_is i k ∙ sym (word.has i k) ∙ sym (moment_val F L n x (at F L e word.below) i)))
          (λ i k g w. native.Mathlib.Fin.val_path (word.only i k g w))
          room (omega (arith, word.room))
          (λ i k. native.Mathlib.Fin.val_path (S_is i k ∙ sym (struck_val points gone vs row.points_below bv n i)))
          (λ i k. native.Mathlib.Fin.val_path (app_val F L (suc t) S ws b_s ker.below i ∙ ker.none i k))
          (λ i k q. (((chosen i k).out q).0, λ z. ((chosen i k).out q).1 (sym (value_val ws ker.below (x i) (suc t) 0) ∙ ap (λ y. y.0) z)))
          j l m);
    }
      where
        n : ℕ
        n = length points

        x : ℕ → Fin F.order
        x = at F L points row.points_below

        f : ℕ → Fin F.order
        f = at F L ws ker.below

        apart : (i j : ℕ) → i < n → j < n → i ≢ j → x i ≢ x j
        apart = apart_codes points row.points_below row.apart

  pub final_codes : (points sums : List ℕ) (gone mask : List Bool) (out : List ℕ) → Row F points sums gone → Located F points sums gone mask → Restored F points sums mask out
      → (wrong : ℕ → Bool) (e : List ℕ) → Word F points sums gone wrong e → (j : ℕ) → j < length points → get_or out j 0 ≡ get_or e j 0
  final_codes points sums gone mask out row loc res wrong e word j l =
      ap (λ z. z.0) (M.same (codes F L) (length points) (count (length points) (marked mask)) (at F L points row.points_below) (at F L out res.below) (at F L e word.below)
      (apart_codes points row.points_below row.apart)
      (λ i k. native.Mathlib.Fin.val_path (moment_val F L (length points) (at F L points row.points_below) (at F L out res.below) i ∙ res.has i k
      ∙ sym (word.has i (omega (arith, loc.few))) ∙ sym (moment_val F L (length points) (at F L points row.points_below) (at F L e word.below) i)))
      (listed (length points) (marked mask)) (omega (arith, length_listed (length points) (marked mask))) (from_listed (length points) (marked mask))
      (λ i k. elim (cases_Bool (marked mask i)) [
        | inl h ↦ inr (in_listed (length points) (marked mask) i k h)
        | inr h ↦ inl (native.Mathlib.Fin.val_path (res.zeros i k h ∙ sym (loc.zeros wrong e word i k h)))
      ]) j l)

  sum_ranked : (n : ℕ) (p : ℕ → Bool) (g : ℕ → ℕ) → sum_f F n (λ j. cond (p j) (g (count j p)) 0) ≡ sum_f F (count n p) g
  sum_ranked zero p g = refl
  sum_ranked (suc n) p g =
      ap (λ z. F.add z (cond (p n) (g (count n p)) 0)) (sum_ranked n p g)
      ∙ elim (p n) as (λ b. F.add (sum_f F (count n p) g) (cond b (g (count n p)) 0) ≡ sum_f F (count n p + cond b 1 0) g) [
        | true ↦ rw (add-one (count n p)) refl
        | false ↦ L.add_zero (sum_f F (count n p) g) (sum_code F L (count n p) g) ∙ ap (λ k. sum_f F k g) (sym (N.add-zero (count n p)))
      ]

  module _ (points : List ℕ) (p : ℕ → Bool) (bp : Below F.order points) (apart : Apart points) (ch : List ℕ) (size : length ch ≡ count (length points) p)
      (gathered : (j : ℕ) → j < length points → p j ≡ true → get_or ch (count j p) 0 ≡ get_or points j 0) where
    pub chosen_below : Below F.order ch
    chosen_below t l = let s = select p (length points) t (omega arith) in
        rw (ap (λ k. get_or ch k 0) (sym s.3) ∙ gathered s.0 s.1 s.2) (bp s.0 s.1)

    pub chosen_apart : Apart ch
    chosen_apart t u l m e =
        let s = select p (length points) t (omega arith) in
        let r = select p (length points) u (omega arith) in
        let q = apart s.0 r.0 s.1 r.1
        (sym (gathered s.0 s.1 s.2) ∙ ap (λ k. get_or ch k 0) s.3 ∙ e ∙ ap (λ k. get_or ch k 0) (sym r.3) ∙ gathered r.0 r.1 r.2) in
        sym s.3 ∙ ap (λ k. count k p) q ∙ r.3

    pub scattered_moment : (zs out : List ℕ) → ((j : ℕ) → j < length points → get_or out j 0 ≡ cond (p j) (get_or zs (count j p) 0) 0)
        → (i : ℕ) → moment F points out i ≡ moment F ch zs i
    scattered_moment zs out h i =
        sum_cong F (length points) (λ j. F.mul (get_or out j 0) (power_f F (get_or points j 0) i)) (λ j. cond (p j) (g (count j p)) 0)
        (λ j l. elim (cases_Bool (p j)) [
          | inl e ↦ cc (h j l ∙ ap (λ b. cond b (get_or zs (count j p) 0) 0) e, gathered j l e, ap (λ b. cond b (g (count j p)) 0) e)
          | inr e ↦ cc (h j l ∙ ap (λ b. cond b (get_or zs (count j p) 0) 0) e, ap (λ b. cond b (g (count j p)) 0) e, ap (λ z. z.0) (zero_mul (codes F L) (power_f F (get_or points j 0) i, power_code F L (get_or points j 0) i)))
        ])
        ∙ sum_ranked (length points) p g ∙ ap (λ k. sum_f F k g) (sym size)
      where
        g : ℕ → ℕ
        g t = F.mul (get_or zs t 0) (power_f F (get_or ch t 0) i)

  pub struck_code : (points : List ℕ) (gone : List Bool) (vs : List ℕ) → Below F.order vs → (j i : ℕ) → struck F points gone vs j i < F.order
  struck_code points gone vs bv zero i = at_code F L vs bv i
  struck_code points gone vs bv (suc j) i =
      let ih = struck_code points gone vs bv j i in
      elim (marked gone j) as (λ b. cond b (less F (struck F points gone vs j (suc i)) (F.mul (get_or points j 0) (struck F points gone vs j i))) (struck F points gone vs j i) < F.order) [ true ↦ L.add_code _ _ | false ↦ ih ]
