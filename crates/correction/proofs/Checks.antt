-- Check sums of lists of codes on the field's own type: one symbol taken out changes them by its term. Assumes nothing.
use Rattle.std.proofs.Common.{◌≡◌, ℕ, ◌*◌, ◌/◌, ◌%◌, ◌<◌, ◌≢◌, List, length, get_or, set, sym, ap, ◌∙◌, subst, inl, inr, mod-lt, div-lt_iff_lt-mul, div-add-mod', arith, length-set, get_or-set_other, get_or-set_same}
use Prim.Native.Nat.{Fin}
use Rattle.std.proofs.lemmas.Bool.{cases_eq}
use Rattle.refusal.specs.Codes.{Below}
use Rattle.geometry.specs.Rule.{Rule}
use Rattle.laws.specs.Ops.{Ops, Laws, less, power as power_f}
use Rattle.algebra.specs.Frames.{strip_locator, square_locator}
use Rattle.algebra.proofs.Ring.{Whole, mul_right_comm, power}
use Rattle.algebra.proofs.Codes.{codes, gen, at, a, power_val, sum_code, check_code}
use Rattle.algebra.proofs.Squares as Q
use Rattle.solver.specs.Sums.{Taken}
use Rattle.correction.specs.Nearing.{Held}

module _ (F : Ops) (L : Laws F) (m n c : ℕ) (rule : Rule F.order m n c) where
  abbrev pub K : Whole
  K = codes F L

  abbrev pub loc : ℕ → Fin F.order
  loc = a F L m n c rule.0 rule.3

  pub loc_val : (s : ℕ) → (loc s).0 ≡ square_locator F s
  loc_val s = power_val F L (gen F L) s

  pub table_below : (xs table : List ℕ) → Held F m n c xs table → Below F.order table
  table_below xs table held p l =
      let d = div-add-mod' p c in
      let row : p / c < m = (div-lt_iff_lt-mul rule.1).1 (omega (arith, held.table_size)) in
      subst (λ (z : ℕ). z < F.order) (sym (ap (λ z. get_or table z 0) (sym d) ∙ held.sums.sums (p / c) (p % c) row (mod-lt p rule.1))) (sum_code F L n _)

  weight : (s x : ℕ) (lx : x < F.order) (h i : ℕ)
      → (K.◌⊙◌ (K.◌⊙◌ (x, lx) (power K (loc (s / m)) i)) (power K (loc s) h)).0 ≡ F.mul (F.mul x (power_f F (square_locator F s) h)) (power_f F (strip_locator F (s / m)) i)
  weight s x lx h i = ap (λ z. z.0) (sym (mul_right_comm K (x, lx) (power K (loc s) h) (power K (loc (s / m)) i))) ∙ simp (power_val)

  -- one symbol taken out of the array and of its table
  module _ (xs table table' : List ℕ) (s x : ℕ) (held : Held F m n c xs table) (l : s < n * m) (lx : x < F.order) where
    abbrev after : List ℕ
    after = set xs s (less F (get_or xs s 0) x)

    here : get_or after s 0 ≡ less F (get_or xs s 0) x
    here = get_or-set_same xs s (less F (get_or xs s 0) x) 0 (omega (arith, held.size))

    there : (p : ℕ) → p ≢ s → get_or after p 0 ≡ get_or xs p 0
    there p ne = get_or-set_other xs s p (less F (get_or xs s 0) x) 0 ne

    below' : Below F.order after
    below' p k = elim (cases_eq p s) [
      | inl e ↦ rw (ap (λ q. get_or after q 0) e ∙ here) (L.add_code _ _)
      | inr ne ↦ rw (there p ne) (held.below p (omega (arith, length-set xs s (less F (get_or xs s 0) x))))
    ]

    pub taken_out : length table' ≡ m * c → Taken F x (strip_locator F (s / m)) (square_locator F s) c m table table' → Held F m n c (set xs s (less F (get_or xs s 0) x)) table'
    taken_out size taken = record {
      size = length-set xs s (less F (get_or xs s 0) x) ∙ held.size;
      below = below';
      table_size = size;
      sums = record {
        sums = λ h i lh li. taken.done h i lh li
            ∙ ap (λ t. less F t (F.mul (F.mul x (power_f F (square_locator F s) h)) (power_f F (strip_locator F (s / m)) i))) (held.sums.sums h i lh li ∙ sym (check_code F L m n c rule.0 rule.3 xs held.below h i))
            ∙ ap (λ t. less F (Q.check K n m loc loc (at F L xs held.below) h i).0 t) (sym (weight s x lx h i))
            ∙ sym (ap (λ z. z.0) (Q.take_out K n m loc loc (at F L xs held.below) (at F L after below') s (x, lx) l (native.Mathlib.Fin.val_path here) (λ p _ ne. native.Mathlib.Fin.val_path (there p ne)) h i))
            ∙ check_code F L m n c rule.0 rule.3 after below' h i;
      };
    }
