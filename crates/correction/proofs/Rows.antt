-- What the row decoder and the peeled sums say on codes, said on the field's own type. Assumes nothing.
use Rattle.std.proofs.Common.{◌≡◌, ℕ, zero, suc, ◌<◌, Bool, true, List, map, length, get_or, sym, refl, ap, ◌∙◌, subst, arith}
use Prim.Native.Nat.{Fin}
use Rattle.std.specs.List.{range_with_len}
use Rattle.std.proofs.lemmas.List.FromFn.{length-map-range_with_len, get_or-map-range_with_len}
use Rattle.geometry.specs.Rule.{Rule}
use Rattle.laws.specs.Ops.{Ops, Laws, less, power as power_f, sum as sum_f}
use Rattle.algebra.proofs.Rows.{struck, factor}
use Rattle.algebra.proofs.Codes.{codes}
use Rattle.algebra.proofs.Squares as Q
use Rattle.solver.specs.Sums.{Word, marked, fold_of}
use Rattle.solver.proofs.Solving.{moment_val}
use Rattle.solver.proofs.Parts.{sum_cong}
use Rattle.frame.specs.Tables.{Powers}
use Rattle.correction.specs.Nearing.{gaps}
use Rattle.correction.proofs.Checks.{K, loc, loc_val}

module _ (F : Ops) (L : Laws F) where
  pub struck_val : (b : ℕ → Fin F.order) (points : List ℕ) (v : ℕ → Fin F.order) (k : ℕ) → ((i : ℕ) → i < k → get_or points i 0 ≡ (b i).0)
      → (h : ℕ) → (struck (codes F L) b (λ _. true) v k h).0 ≡ fold_of F points (λ h. (v h).0) k h
  struck_val b points v zero e h = refl
  struck_val b points v (suc k) e h =
      let ih = struck_val b points v k (λ i l. e i (omega arith)) in
      let up = ih (suc h) in
      let low = ih h in
      let p = e k (omega arith) in cc

  pub factor_val : (b : ℕ → Fin F.order) (points : List ℕ) (x : Fin F.order) (k : ℕ) → ((i : ℕ) → i < k → get_or points i 0 ≡ (b i).0)
      → (factor (codes F L) b (λ _. true) k x).0 ≡ gaps F points x.0 k
  factor_val b points x zero e = refl
  factor_val b points x (suc k) e =
      let ih = factor_val b points x k (λ i l. e i (omega arith)) in
      let p = e k (omega arith) in
      let turned = L.mul_comm (factor (codes F L) b (λ _. true) k x).0 (less F x.0 (b k).0) (factor (codes F L) b (λ _. true) k x).1 (L.add_code x.0 (F.neg (b k).0)) in cc

  module _ (m n c : ℕ) (rule : Rule F.order m n c) where
    -- a word as a list
    abbrev word : (ℕ → Fin F.order) → List ℕ
    word w = map (λ j. (w j).0) (range_with_len 0 n)

    word_at : (w : ℕ → Fin F.order) (j : ℕ) → j < n → get_or (word w) j 0 ≡ (w j).0
    word_at w j l = get_or-map-range_with_len (λ j. (w j).0) 0 n j j 0 l (omega arith)

    pub answer : (strips sums : List ℕ) (mask : List Bool) (y : ℕ → Fin F.order) → Powers F F.generator strips → length strips ≡ n → length sums ≡ c
        → ((wrong : ℕ → Bool) (e : List ℕ) → Word F strips sums mask wrong e → (j : ℕ) → j < length strips → (y j).0 ≡ get_or e j 0)
        → (v : ℕ → Fin F.order) → ((i : ℕ) → i < c → (v i).0 ≡ get_or sums i 0)
        → Q.Answer (K F L m n c rule) n m (loc F L m n c rule) (loc F L m n c rule) c (marked mask) v y
    answer strips sums mask y ps ls lc is v v_is wrong w has only room j l =
        native.Mathlib.Fin.val_path (is wrong (word w) (record {
          below = λ i k. subst (λ (z : ℕ). z < F.order) (sym (word_at w i (omega (arith, length-map-range_with_len (λ j. (w j).0) 0 n)))) (w i).1;
          has = λ i k.
              ap (λ t. sum_f F t (λ t. F.mul (get_or (word w) t 0) (power_f F (get_or strips t 0) i))) ls
              ∙ sum_cong F n (λ t. F.mul (get_or (word w) t 0) (power_f F (get_or strips t 0) i)) (λ t. F.mul (w t).0 (power_f F (loc F L m n c rule t).0 i))
              (λ t q. let e = word_at w t q in let d : get_or strips t 0 ≡ (loc F L m n c rule t).0 = ps t (omega arith) ∙ sym (loc_val F L m n c rule t) in cc)
              ∙ sym (moment_val F L n (loc F L m n c rule) w i) ∙ ap (λ z. z.0) (sym (has i (omega arith))) ∙ v_is i (omega arith);
          only = λ i k g h. word_at w i (omega arith) ∙ ap (λ z. z.0) (only i (omega arith) g h);
          room = rw ls (rw lc room);
        }) j (omega arith) ∙ word_at w j l)
