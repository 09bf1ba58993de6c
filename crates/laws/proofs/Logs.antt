-- Tables of powers and logarithms, tested entry by entry, make the field of 2^w elements stand: each code but 0 is a power of g.
-- Assumes nothing.
use Rattle.std.proofs.Common.{◌≡◌, ℕ, zero, suc, ◌+◌, ◌-◌, ◌*◌, ◌^◌, ◌<◌, ◌≤◌, ◌&&◌, T, eqb, ltb, List, length, get_or, sym, refl, ap, ◌∙◌, not-suc-le-zero, mul_comm, arith, eqb→eq, ltb→lt}
use lib.Bits.{bit_xor, xor_assoc, xor_comm, xor_lt, xor_self, xor_zero_r}
use Rattle.laws.specs.Ops.{Laws, power}
use Rattle.laws.specs.Binary.{product, raise, reciprocal, binary}
use Rattle.laws.proofs.Tests.{all, at, both_parts}
use Rattle.laws.proofs.Within.{in_1, in_2, out_1, out_2, below_1, below_2, comm_2, assoc_2, distributed_2}
use Rattle.laws.proofs.Steps.{steps, raise_at}
use Rattle.laws.proofs.Product as by

-- what is tested: exp holds the powers of g, twice around, and log the exponent of each code but 0
pub record Logs (w m g : ℕ) (exp log : List ℕ) : Type 0 where
  pub tested : by.Tested w m
  pub wide : 2 < 2 ^ w
  pub most : 2 ^ w ≤ 256
  pub generator_least : 1 ≤ g
  pub generator_code : g < 2 ^ w
  pub twice : length exp ≡ 2 * (2 ^ w - 1)
  pub exps : T (steps (product w m g) 1 exp)
  pub cycle : get_or exp (2 ^ w - 1) 0 ≡ 1
  pub exp_log : T (all (2 ^ w - 1) (λ a. ltb (get_or log (suc a) 0) (2 ^ w - 1) && eqb (get_or exp (get_or log (suc a) 0) 0) (suc a)))
  pub log_exp : T (all (2 ^ w - 1) (λ k. eqb (get_or log (get_or exp k 0) 0) k))

module _ {w m g : ℕ} {exp log : List ℕ} (logs : Logs w m g exp log) where
  pos : 0 < 2 ^ w
  pos = let l = logs.wide in omega arith

  -- powers in the field are powers by the product
  pub power_raise : (k : ℕ) → power (binary w m g) g k ≡ raise (product w m) g k
  power_raise zero = refl
  power_raise (suc k) =
      ap (λ x. (binary w m g).mul g x) (power_raise k)
      ∙ in_2 (2 ^ w) g (raise (product w m) g k) _ logs.generator_code (by.raise_below w m logs.tested g k)

  pub exp_at : (k : ℕ) → k < 2 * (2 ^ w - 1) → get_or exp k 0 ≡ raise (product w m) g k
  exp_at k h = let l = logs.twice in raise_at (product w m) g exp logs.exps k (omega arith)

  pub log_at : (a : ℕ) → 0 < a → a < 2 ^ w → (get_or log a 0 < 2 ^ w - 1) × (raise (product w m) g (get_or log a 0) ≡ a)
  log_at zero p h = absurd (not-suc-le-zero p)
  log_at (suc a) p h =
      let t : T (ltb (get_or log (suc a) 0) (2 ^ w - 1)) × T (eqb (get_or exp (get_or log (suc a) 0) 0) (suc a)) =
      both_parts _ _ (at (2 ^ w - 1) (λ a. ltb (get_or log (suc a) 0) (2 ^ w - 1) && eqb (get_or exp (get_or log (suc a) 0) 0) (suc a)) logs.exp_log a (omega arith)) in
      let l : get_or log (suc a) 0 < 2 ^ w - 1 = ltb→lt _ _ t.0 in
      (l, sym (exp_at (get_or log (suc a) 0) (omega arith)) ∙ eqb→eq _ _ t.1)

  pub cycle_at : raise (product w m) g (2 ^ w - 1) ≡ 1
  cycle_at = let l = logs.wide in sym (exp_at (2 ^ w - 1) (omega arith)) ∙ logs.cycle

  log_raise : (k : ℕ) → k < 2 ^ w - 1 → get_or log (raise (product w m) g k) 0 ≡ k
  log_raise k h =
      ap (λ x. get_or log x 0) (sym (exp_at k (omega arith)))
      ∙ eqb→eq _ _ (at (2 ^ w - 1) (λ k. eqb (get_or log (get_or exp k 0) 0) k) logs.log_exp k h)

  apart : (i j : ℕ) → i < j → j + 1 < 2 ^ w → power (binary w m g) g i ≡ power (binary w m g) g j → ⊥
  apart i j l h e =
      let same : i ≡ j = sym (log_raise i (omega arith)) ∙ ap (λ x. get_or log x 0) (sym (power_raise i) ∙ e ∙ power_raise j) ∙ log_raise j (omega arith) in
      omega arith

  -- a = g^k, so a^(2^w - 1) = (g^(2^w - 1))^k = 1
  inverse : (a : ℕ) → a < 2 ^ w → (a ≡ 0 → ⊥) → product w m a (reciprocal w m a) ≡ 1
  unfolding reciprocal
  inverse a h n =
      let l = logs.wide in
      let e : suc (2 ^ w - 2) ≡ 2 ^ w - 1 = omega arith in
      let k = get_or log a 0 in
      ap (raise (product w m) a) e ∙ ap (λ x. raise (product w m) x (2 ^ w - 1)) (sym (log_at a (omega arith) h).1) ∙ by.raise_mul w m logs.tested g k (2 ^ w - 1)
      ∙ ap (raise (product w m) g) (mul_comm k (2 ^ w - 1)) ∙ sym (by.raise_mul w m logs.tested g (2 ^ w - 1) k)
      ∙ ap (λ x. raise (product w m) x k) cycle_at ∙ by.raise_one w m logs.tested k

  no_inverse : reciprocal w m 0 ≡ 0
  unfolding reciprocal
  no_inverse =
      let l = logs.wide in
      let e : 2 ^ w - 2 ≡ suc (2 ^ w - 3) = omega arith in
      ap (raise (product w m) 0) e ∙ by.zero_mul w m _

  reciprocal_below : (a : ℕ) → reciprocal w m a < 2 ^ w
  unfolding reciprocal
  reciprocal_below a = by.raise_below w m logs.tested a (2 ^ w - 2)

  product_code : (a b : ℕ) → a < 2 ^ w → b < 2 ^ w → product w m a b < 2 ^ w
  product_code a b _ hb = by.mul_below w m logs.tested a b hb

  pub binary_laws : Laws (binary w m g)
  binary_laws = record {
    order_least = let l = logs.wide in omega arith;
    order_most = logs.most;
    generator_least = logs.generator_least;
    generator_code = logs.generator_code;
    add_code = λ a b. below_2 (2 ^ w) pos a b _ (xor_lt w a b);
    neg_code = λ a. below_1 (2 ^ w) pos a _ (λ h. h);
    mul_code = λ a b. below_2 (2 ^ w) pos a b _ (product_code a b);
    inv_code = λ a. below_1 (2 ^ w) pos a _ (λ h. reciprocal_below a);
    add_outside = λ a b. out_2 (2 ^ w) a b _;
    neg_outside = λ a. out_1 (2 ^ w) a _;
    mul_outside = λ a b. out_2 (2 ^ w) a b _;
    inv_outside = λ a. out_1 (2 ^ w) a _;
    inv_zero = in_1 (2 ^ w) 0 _ pos ∙ no_inverse;
    add_comm = comm_2 (2 ^ w) bit_xor (xor_lt w) (λ a b _ _. xor_comm a b);
    add_assoc = assoc_2 (2 ^ w) bit_xor (xor_lt w) (λ a b c _ _ _. xor_assoc a b c);
    add_zero = λ a h. in_2 (2 ^ w) a 0 _ h pos ∙ xor_zero_r a;
    add_neg = λ a h. ap (λ x. (binary w m g).add a x) (in_1 (2 ^ w) a a h) ∙ in_2 (2 ^ w) a a _ h h ∙ xor_self a;
    mul_comm = comm_2 (2 ^ w) (product w m) product_code (by.comm w m logs.tested);
    mul_assoc = assoc_2 (2 ^ w) (product w m) product_code (λ a b c _ hb hc. by.assoc w m logs.tested a b c hb hc);
    mul_one = λ a h. in_2 (2 ^ w) a 1 _ h logs.tested.one_below ∙ by.comm w m logs.tested a 1 h logs.tested.one_below ∙ by.one_mul w m logs.tested a h;
    mul_inv = λ a h n. ap (λ x. (binary w m g).mul a x) (in_1 (2 ^ w) a _ h) ∙ in_2 (2 ^ w) a (reciprocal w m a) _ h (reciprocal_below a) ∙ inverse a h n;
    mul_add = distributed_2 (2 ^ w) bit_xor (product w m) (xor_lt w) product_code (λ a b c _ _ _. by.mul_add w m a b c);
    powers_apart = apart;
  }
