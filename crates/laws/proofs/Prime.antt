-- The laws of sums and products modulo a prime p: the laws of remainders, inverses and powers by one test each. Assumes nothing.
use Rattle.std.proofs.Common.{◌≡◌, ℕ, zero, suc, ◌+◌, ◌-◌, ◌*◌, ◌%◌, ◌^◌, ◌<◌, ◌≤◌, Bool, not, T, eqb, sym, refl, ap, ◌∙◌, subst, add-zero, add_assoc, mod-lt, mod-eq_of_lt, mul_assoc, mul_comm, add_comm, pow-suc, mul-zero, mul-one, mul-add, arith, eqb→eq, T_not}
use native.Mathlib.Nat.{mod-add-mod, add-mod-mod, mod_self}
use Rattle.std.proofs.lemmas.Nat.{mul-mod_first, mul-mod_second}
use lib.Dec.{eqb_refl}
use Rattle.laws.specs.Ops.{Laws, power}
use Rattle.laws.specs.Modular.{modular}
use Rattle.laws.proofs.Tests.{all, at}
use Rattle.laws.proofs.Within.{in_1, in_2, out_1, out_2, below_1, below_2, comm_2, assoc_2, distributed_2}

-- k + 1 times its power p - 2 is 1, modulo p
abbrev pub inverted : ℕ → ℕ → Bool
inverted p k = eqb (suc k * (suc k ^ (p - 2) % p) % p) 1

-- the powers i and j of g are not equal
abbrev pub differ : ℕ → ℕ → ℕ → ℕ → Bool
differ p g j i = not (eqb (power (modular p g) g i) (power (modular p g) g j))

-- what is tested of p and g; the inverses make p a prime
pub record Tested (p g : ℕ) : Type 0 where
  pub least : 3 ≤ p
  pub most : p ≤ 256
  pub generator_least : 1 ≤ g
  pub generator_code : g < p
  pub inverts : T (all (p - 1) (inverted p))
  pub apart : T (all (p - 1) (λ j. all j (differ p g j)))

module _ (p g : ℕ) (tested : Tested p g) where
  inverse : (a : ℕ) → a < p → (a ≡ 0 → ⊥) → a * (a ^ (p - 2) % p) % p ≡ 1
  inverse zero h n = absurd (n refl)
  inverse (suc k) h n = eqb→eq _ 1 (at (p - 1) (inverted p) tested.inverts k (omega arith))

  two : 2 ≤ p
  two = let l = tested.least in omega arith

  pos : 0 < p
  pos = let l = tested.least in omega arith

  sum_code : (a b : ℕ) → a < p → b < p → (a + b) % p < p
  sum_code a b _ _ = mod-lt (a + b) pos

  product_code : (a b : ℕ) → a < p → b < p → a * b % p < p
  product_code a b _ _ = mod-lt (a * b) pos

  with_neg : (a : ℕ) → a < p → (modular p g).add a ((modular p g).neg a) ≡ 0
  with_neg a h =
      ap (λ n. (modular p g).add a n) (in_1 p a _ h) ∙ in_2 p a ((p - a) % p) _ h (mod-lt (p - a) pos) ∙ add-mod-mod a (p - a) p
      ∙ ap (λ n. n % p) (let e : a + (p - a) ≡ p = omega arith in e) ∙ mod_self p

  no_inverse : 0 ^ (p - 2) % p ≡ 0
  no_inverse =
      let l = tested.least in
      let e : p - 2 ≡ suc (p - 3) = omega arith in
      ap (λ n. 0 ^ n % p) e ∙ ap (λ n. n % p) (pow-suc 0 (p - 3) ∙ mul-zero (0 ^ (p - 3))) ∙ mod-eq_of_lt pos

  apart : (i j : ℕ) → i < j → j + 1 < p → power (modular p g) g i ≡ power (modular p g) g j → ⊥
  apart i j l h e =
      let row = at (p - 1) (λ j. all j (differ p g j)) tested.apart j (omega arith) in
      T_not _ (at j (differ p g j) row i l) (subst (λ (x : ℕ). T (eqb (power (modular p g) g i) x)) e (eqb_refl _))

  pub modular_laws : Laws (modular p g)
  modular_laws = record {
    order_least = two;
    order_most = tested.most;
    generator_least = tested.generator_least;
    generator_code = tested.generator_code;
    add_code = λ a b. below_2 p pos a b _ (sum_code a b);
    neg_code = λ a. below_1 p pos a _ (λ ha. mod-lt (p - a) pos);
    mul_code = λ a b. below_2 p pos a b _ (product_code a b);
    inv_code = λ a. below_1 p pos a _ (λ ha. mod-lt (a ^ (p - 2)) pos);
    add_outside = λ a b. out_2 p a b _;
    neg_outside = λ a. out_1 p a _;
    mul_outside = λ a b. out_2 p a b _;
    inv_outside = λ a. out_1 p a _;
    inv_zero = in_1 p 0 _ pos ∙ no_inverse;
    add_comm = comm_2 p (λ a b. (a + b) % p) sum_code (λ a b _ _. ap (λ n. n % p) (add_comm a b));
    add_assoc = assoc_2 p (λ a b. (a + b) % p) sum_code (λ a b c _ _ _. mod-add-mod (a + b) p c ∙ ap (λ n. n % p) (add_assoc a b c) ∙ sym (add-mod-mod a (b + c) p));
    add_zero = λ a h. in_2 p a 0 _ h pos ∙ ap (λ n. n % p) (add-zero a) ∙ mod-eq_of_lt h;
    add_neg = with_neg;
    mul_comm = comm_2 p (λ a b. a * b % p) product_code (λ a b _ _. ap (λ n. n % p) (mul_comm a b));
    mul_assoc = assoc_2 p (λ a b. a * b % p) product_code (λ a b c _ _ _. mul-mod_first (a * b) c p ∙ ap (λ n. n % p) (mul_assoc a b c) ∙ sym (mul-mod_second a (b * c) p));
    mul_one = λ a h. in_2 p a 1 _ h two ∙ ap (λ n. n % p) (mul-one a) ∙ mod-eq_of_lt h;
    mul_inv = λ a h n. ap (λ x. (modular p g).mul a x) (in_1 p a _ h) ∙ in_2 p a (a ^ (p - 2) % p) _ h (mod-lt _ pos) ∙ inverse a h n;
    mul_add = distributed_2 p (λ a b. (a + b) % p) (λ a b. a * b % p) sum_code product_code
        (λ a b c _ _ _. mul-mod_second a (b + c) p ∙ ap (λ n. n % p) (mul-add a b c) ∙ sym (add-mod-mod (a * b) (a * c) p) ∙ sym (mod-add-mod (a * b) p (a * c % p)));
    powers_apart = apart;
  }
