-- The codes below q as a field on a type of their own, and what is shown there of sums of codes. Assumes nothing.
use Rattle.std.proofs.Common.{◌≡◌, ℕ, zero, suc, ◌+◌, ◌*◌, ◌/◌, ◌<◌, ◌≤◌, ◌≢◌, List, length, get_or, sym, refl, ap, ◌∙◌, inl, inr, mul-le-mul_left, arith}
use Prim.Native.Nat.{Fin}
use Rattle.laws.specs.Ops.{Ops, Laws, power as power_f, sum as sum_f}
use Rattle.std.proofs.lemmas.List.{get_or_past}
use Rattle.std.proofs.lemmas.Bool.{cases_order, cases_lt}
use Rattle.refusal.specs.Codes.{Below}
use Rattle.algebra.specs.Frames.{IsFrame, check_sum}
use Rattle.algebra.proofs.Squares.{check}
use Rattle.algebra.proofs.Dual.{Balanced}
use lib.Arith.{digits_div}
use Rattle.algebra.proofs.Ring.{Whole, sum, sum_cong, sum_rows, power}

module _ (F : Ops) (L : Laws F) where
  pub zero_code : 0 < F.order
  zero_code = omega (arith, L.order_least)

  abbrev pub codes : Whole
  codes = record {
    C = Fin F.order;
    𝟘 = (0, zero_code);
    𝟙 = (1, L.order_least);
    ◌⊕◌ = λ x y. (F.add x.0 y.0, L.add_code x.0 y.0);
    ◌⊙◌ = λ x y. (F.mul x.0 y.0, L.mul_code x.0 y.0);
    ⊖◌ = λ x. (F.neg x.0, L.neg_code x.0);
    inv = λ x. (F.inv x.0, L.inv_code x.0);
    add_comm = λ x y. native.Mathlib.Fin.val_path (L.add_comm x.0 y.0 x.1 y.1);
    add_assoc = λ x y z. native.Mathlib.Fin.val_path (L.add_assoc x.0 y.0 z.0 x.1 y.1 z.1);
    add_zero = λ x. native.Mathlib.Fin.val_path (L.add_zero x.0 x.1);
    add_neg = λ x. native.Mathlib.Fin.val_path (L.add_neg x.0 x.1);
    mul_comm = λ x y. native.Mathlib.Fin.val_path (L.mul_comm x.0 y.0 x.1 y.1);
    mul_assoc = λ x y z. native.Mathlib.Fin.val_path (L.mul_assoc x.0 y.0 z.0 x.1 y.1 z.1);
    mul_one = λ x. native.Mathlib.Fin.val_path (L.mul_one x.0 x.1);
    mul_add = λ x y z. native.Mathlib.Fin.val_path (L.mul_add x.0 y.0 z.0 x.1 y.1 z.1);
    mul_inv = λ x n. native.Mathlib.Fin.val_path (L.mul_inv x.0 x.1 (λ e. n (native.Mathlib.Fin.val_path e)));
    one≢zero = λ e. let z : ◌≡◌ {A = ℕ} 1 0 = ap (λ x. x.0) e in omega arith;
  }

  pub sum_val : (k : ℕ) (f : ℕ → Fin F.order) → (sum codes k f).0 ≡ sum_f F k (λ i. (f i).0)
  unfolding sum
  sum_val zero f = refl
  sum_val (suc k) f = ap (λ t. F.add t (f k).0) (sum_val k f)

  pub power_val : (x : Fin F.order) (k : ℕ) → (power codes x k).0 ≡ power_f F x.0 k
  unfolding power
  power_val x zero = refl
  power_val x (suc k) = ap (F.mul x.0) (power_val x k)

  abbrev pub gen : Fin F.order
  gen = (F.generator, L.generator_code)

  pub power_apart : (i j : ℕ) → i + 1 < F.order → j + 1 < F.order → i ≢ j → power codes gen i ≢ power codes gen j
  power_apart i j li lj n e =
      let e' : power_f F F.generator i ≡ power_f F F.generator j = sym (power_val gen i) ∙ ap (λ x. x.0) e ∙ power_val gen j in
      elim (cases_order i j) [ inl s ↦ n s | inr (inl l) ↦ L.powers_apart i j l lj e' | inr (inr l) ↦ L.powers_apart j i l li (sym e') ]

  pub at_code : (xs : List ℕ) → Below F.order xs → (s : ℕ) → get_or xs s 0 < F.order
  at_code xs h s = elim (cases_lt s (length xs)) [ inl l ↦ h s l | inr l ↦ rw (get_or_past xs s 0 l) zero_code ]

  pub sum_code : (k : ℕ) (f : ℕ → ℕ) → sum_f F k f < F.order
  sum_code zero f = zero_code
  sum_code (suc k) f = L.add_code (sum_f F k f) (f k)

  -- a list of codes, as elements
  abbrev pub at : (xs : List ℕ) → Below F.order xs → ℕ → Fin F.order
  at xs h s = (get_or xs s 0, at_code xs h s)

  module _ (m n c : ℕ) (pos : 0 < m) (room : n * m < F.order) where
    abbrev pub a : ℕ → Fin F.order
    a j = power codes gen j

    pub a_apart : (i j : ℕ) → i < n → j < n → i ≢ j → a i ≢ a j
    a_apart i j li lj d = let h : n * 1 ≤ n * m = mul-le-mul_left n pos in power_apart i j (omega arith) (omega arith) d

    pub β_apart : (i j : ℕ) → i < n * m → j < n * m → i ≢ j → a i ≢ a j
    β_apart i j li lj d = power_apart i j (omega arith) (omega arith) d

    -- the check sums of a list of codes
    pub check_code : (xs : List ℕ) (b : Below F.order xs) (h i : ℕ) → (check codes n m a a (at xs b) h i).0 ≡ check_sum F m n xs h i
    check_code xs b h i =
        ap (λ z. z.0) (sum_rows codes n m (λ p. weigh (at xs b p) (power codes (a (p / m)) i) (power codes (a p) h))
        ∙ sum_cong codes n (λ j. sum codes m (λ κ. weigh (at xs b (j * m + κ)) (power codes (a ((j * m + κ) / m)) i) (power codes (a (j * m + κ)) h)))
        (λ j. sum codes m (λ κ. spread xs b h i j κ))
        (λ j _. sum_cong codes m (λ κ. weigh (at xs b (j * m + κ)) (power codes (a ((j * m + κ) / m)) i) (power codes (a (j * m + κ)) h)) (spread xs b h i j)
        (λ κ l. ap (λ s. weigh (at xs b (j * m + κ)) (power codes (a s) i) (power codes (a (j * m + κ)) h)) (digits_div j l)
        ∙ codes.mul_assoc (at xs b (j * m + κ)) (power codes (a j) i) (power codes (a (j * m + κ)) h))))
        ∙ (let e : (sum codes n (λ j. sum codes m (spread xs b h i j))).0 ≡ check_sum F m n xs h i = simp (sum_val, power_val) in e)
      where
        weigh : Fin F.order → Fin F.order → Fin F.order → Fin F.order
        weigh x u v = codes.◌⊙◌ (codes.◌⊙◌ x u) v

        spread : (xs : List ℕ) → Below F.order xs → ℕ → ℕ → ℕ → ℕ → Fin F.order
        spread xs b h i j κ = codes.◌⊙◌ (at xs b (j * m + κ)) (codes.◌⊙◌ (power codes (a j) i) (power codes (a (j * m + κ)) h))

    pub balanced : (xs : List ℕ) (f : IsFrame F m n c xs) → Balanced codes n m c a a (at xs f.codes)
    balanced xs f h i lh li = native.Mathlib.Fin.val_path (check_code xs f.codes h i ∙ f.checks h i lh li)
