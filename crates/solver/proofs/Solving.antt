-- One step of solving for weights, on codes. Assumes nothing.
use Rattle.std.proofs.Common.{◌≡◌, ℕ, zero, suc, ◌<◌, List, length, get_or, sym, ap, ◌∙◌, arith}
use Prim.Native.Nat.{Fin}
use Rattle.laws.specs.Ops.{Ops, Laws, power as power_f, sum as sum_f}
use Rattle.algebra.proofs.Codes.{codes, at, sum_val, power_val}
use Rattle.algebra.proofs.Moments.{solved, moment}
use Rattle.refusal.specs.Codes.{Below}
use Rattle.laws.specs.Ops.{less}
use Rattle.solver.specs.Sums.{Apart, Peeled}
use Rattle.solver.proofs.Parts.{sum_cong}

module _ (F : Ops) (L : Laws F) where
  pub moment_val : (k : ℕ) (x w : ℕ → Fin F.order) (i : ℕ) → (moment (codes F L) k x w i).0 ≡ sum_f F k (λ s. F.mul (w s).0 (power_f F (x s).0 i))
  moment_val k x w i = simp (sum_val, power_val)

  module _ (n : ℕ) (points vs ps zs xs : List ℕ) (size : length points ≡ suc n) (bp : Below F.order points) (bv : Below F.order vs) (bz : Below F.order zs) where
    abbrev pub next : ℕ → ℕ
    next t = F.mul (get_or zs t 0) (F.inv (less F (get_or points (suc t) 0) (get_or points 0 0)))

    module _ (rest : (t : ℕ) → t < n → get_or xs (suc t) 0 ≡ next t) (head : get_or xs 0 0 ≡ less F (get_or ps 0 0) (sum_f F n next)) where
      pub step_below : (i : ℕ) → i < suc n → get_or xs i 0 < F.order
      step_below zero l = rw head (L.add_code _ _)
      step_below (suc i) l = rw (rest i (omega arith)) (L.mul_code _ _)

      pub step_moment : (bx : Below F.order xs) → length vs ≡ suc n → Apart points → Peeled F (get_or points 0 0) vs ps
          → ((i : ℕ) → i < n → sum_f F n (λ t. F.mul (get_or zs t 0) (power_f F (get_or points (suc t) 0) i)) ≡ get_or ps (suc i) 0)
          → (i : ℕ) → i < suc n → sum_f F (suc n) (λ t. F.mul (get_or xs t 0) (power_f F (get_or points t 0) i)) ≡ get_or vs i 0
      step_moment bx lv apart peeled smaller i l =
          sym (moment_val (suc n) (at F L points bp) (at F L xs bx) i)
          ∙ ap (λ z. z.0) (solved (codes F L) n (at F L points bp) (at F L vs bv) (at F L zs bz) (at F L xs bx)
          (λ t k e. let s = apart (suc t) 0 (omega arith) (omega arith) (ap (λ z. z.0) e) in omega arith)
          (λ j k. native.Mathlib.Fin.val_path (moment_val n (λ t. at F L points bp (suc t)) (at F L zs bz) j ∙ smaller j k ∙ peeled.next j (omega arith)))
          (λ t k. native.Mathlib.Fin.val_path (rest t k))
          (native.Mathlib.Fin.val_path (head ∙ cc (peeled.head, sum_cong F n next (λ t. get_or xs (suc t) 0) (λ t k. sym (rest t k)), sum_val F L n (λ t. at F L xs bx (suc t)))))
          i l)
