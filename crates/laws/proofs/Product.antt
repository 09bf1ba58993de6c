-- The laws of the product modulo m, of degree w: it is additive in each factor, so tests at powers of two and at codes give the rest.
-- Assumes nothing.
use Rattle.std.proofs.Common.{◌≡◌, ℕ, zero, suc, ◌+◌, ◌-◌, ◌*◌, ◌/◌, ◌%◌, ◌^◌, ◌<◌, Bool, true, false, cond, T, eqb, ltb, sym, refl, ap, ◌∙◌, ap₂, add_comm, suc-add, mul-zero, zero-add, mul-suc, eqb→eq, ltb→lt, pow_pos}
use Rattle.std.proofs.lemmas.Bool.{cond_both}
use lib.Bits.{bit_xor, xor_lt, xor_shr, xor_mod}
use Rattle.laws.specs.Binary.{pick, xtime, times, product, raise}
use Rattle.laws.proofs.Linear.{swap, double, bit_below, pick_add, Additive, at_zero, span}
use Rattle.laws.proofs.Tests.{all, at, at2}

-- f at what is chosen, where f keeps 0
cond_ap : (f : ℕ → ℕ) → f 0 ≡ 0 → (t : Bool) (v : ℕ) → f (cond t v 0) ≡ cond t (f v) 0
cond_ap f z true v = refl
cond_ap f z false v = z

module _ (w m : ℕ) where
  x_add : Additive (xtime w m)
  x_add b c =
      ap₂ bit_xor (double b c)
      (ap (λ s. pick s m) (ap (λ x. x % 2) (xor_shr b c (w - 1)) ∙ xor_mod (b / 2 ^ (w - 1)) (c / 2 ^ (w - 1)) 1)
      ∙ pick_add (b / 2 ^ (w - 1) % 2) (c / 2 ^ (w - 1) % 2) m (bit_below (b / 2 ^ (w - 1))) (bit_below (c / 2 ^ (w - 1))))
      ∙ swap (b * 2) (c * 2) _ _

  times_right : (k a : ℕ) → Additive (times w m k a)
  times_right zero a b c = refl
  times_right (suc k) a b c =
      ap₂ bit_xor (sel (eqb (a % 2) 1)) (ap (times w m k (a / 2)) (x_add b c) ∙ times_right k (a / 2) (xtime w m b) (xtime w m c))
      ∙ swap (pick (a % 2) b) (pick (a % 2) c) _ _
    where
      sel : (t : Bool) → cond t (bit_xor b c) 0 ≡ bit_xor (cond t b 0) (cond t c 0)
      sel true = refl
      sel false = refl

  times_left : (k c : ℕ) → Additive (λ a. times w m k a c)
  times_left zero c a b = refl
  times_left (suc k) c a b =
      ap₂ bit_xor (ap (λ s. pick s c) (xor_mod a b 1) ∙ pick_add (a % 2) (b % 2) c (bit_below a) (bit_below b))
      (ap (λ x. times w m k x (xtime w m c)) (xor_shr a b 1) ∙ times_left k (xtime w m c) (a / 2) (b / 2))
      ∙ swap (pick (a % 2) c) (pick (b % 2) c) _ _

  -- x comes out of a product
  times_x : (k a b : ℕ) → times w m k a (xtime w m b) ≡ xtime w m (times w m k a b)
  times_x zero a b = sym (at_zero (xtime w m) x_add)
  times_x (suc k) a b =
      ap₂ bit_xor (sym (cond_ap (xtime w m) (at_zero (xtime w m) x_add) (eqb (a % 2) 1) b)) (times_x k (a / 2) (xtime w m b))
      ∙ sym (x_add (pick (a % 2) b) (times w m k (a / 2) (xtime w m b)))

  pub zero_mul : (b : ℕ) → product w m 0 b ≡ 0
  unfolding product
  zero_mul b = at_zero (λ a. product w m a b) (times_left w b)

  pub mul_add : (a b c : ℕ) → product w m a (bit_xor b c) ≡ bit_xor (product w m a b) (product w m a c)
  unfolding product
  mul_add a b c = times_right w a b c

  pub mul_zero_r : (a : ℕ) → product w m a 0 ≡ 0
  unfolding product
  mul_zero_r a = at_zero (product w m a) (times_right w a)

-- what is tested of w and m
pub record Tested (w m : ℕ) : Type 0 where
  pub one_below : 1 < 2 ^ w
  pub x_below : T (all (2 ^ w) (λ a. ltb (xtime w m a) (2 ^ w)))
  pub one_mul : T (all (2 ^ w) (λ a. eqb (product w m 1 a) a))
  pub basis_comm : T (all w (λ i. all w (λ j. eqb (product w m (2 ^ i) (2 ^ j)) (product w m (2 ^ j) (2 ^ i)))))

module _ (w m : ℕ) (tested : Tested w m) where
  x_below : (b : ℕ) → b < 2 ^ w → xtime w m b < 2 ^ w
  x_below b h = ltb→lt (xtime w m b) (2 ^ w) (at (2 ^ w) (λ a. ltb (xtime w m a) (2 ^ w)) tested.x_below b h)

  times_below : (k a b : ℕ) → b < 2 ^ w → times w m k a b < 2 ^ w
  times_below zero a b h = pow_pos w
  times_below (suc k) a b h = xor_lt w _ _ (cond_both (eqb (a % 2) 1) b 0 (λ v. v < 2 ^ w) (λ _. h) (λ _. pow_pos w)) (times_below k (a / 2) (xtime w m b) (x_below b h))

  pub mul_below : (a b : ℕ) → b < 2 ^ w → product w m a b < 2 ^ w
  unfolding product
  mul_below a b h = times_below w a b h

  comm_basis : (a j : ℕ) → a < 2 ^ w → j < w → product w m a (2 ^ j) ≡ product w m (2 ^ j) a
  unfolding product
  comm_basis a j ha hj =
      span w (λ a. product w m a (2 ^ j)) (product w m (2 ^ j)) (times_left w m w (2 ^ j)) (times_right w m w (2 ^ j))
      (λ i hi. eqb→eq _ _ (at2 w (λ i j. eqb (product w m (2 ^ i) (2 ^ j)) (product w m (2 ^ j) (2 ^ i))) tested.basis_comm i j hi hj)) a ha

  pub comm : (a b : ℕ) → a < 2 ^ w → b < 2 ^ w → product w m a b ≡ product w m b a
  unfolding product
  comm a b ha hb = span w (product w m a) (λ b. product w m b a) (times_right w m w a) (times_left w m w a) (λ j hj. comm_basis a j ha hj) b hb

  x_left : (b c : ℕ) → b < 2 ^ w → c < 2 ^ w → product w m (xtime w m b) c ≡ xtime w m (product w m b c)
  unfolding product
  x_left b c hb hc = comm (xtime w m b) c (x_below b hb) hc ∙ times_x w m w c b ∙ ap (xtime w m) (comm c b hc hb)

  times_assoc : (k a b c : ℕ) → b < 2 ^ w → c < 2 ^ w → product w m (times w m k a b) c ≡ times w m k a (product w m b c)
  unfolding product
  times_assoc zero a b c hb hc = zero_mul w m c
  times_assoc (suc k) a b c hb hc =
      times_left w m w c (pick (a % 2) b) (times w m k (a / 2) (xtime w m b))
      ∙ ap₂ bit_xor (cond_ap (λ x. product w m x c) (zero_mul w m c) (eqb (a % 2) 1) b)
      (times_assoc k (a / 2) (xtime w m b) c (x_below b hb) hc ∙ ap (times w m k (a / 2)) (x_left b c hb hc))

  pub assoc : (a b c : ℕ) → b < 2 ^ w → c < 2 ^ w → product w m (product w m a b) c ≡ product w m a (product w m b c)
  unfolding product
  assoc a b c hb hc = times_assoc w a b c hb hc

  pub one_mul : (a : ℕ) → a < 2 ^ w → product w m 1 a ≡ a
  one_mul a h = eqb→eq _ _ (at (2 ^ w) (λ a. eqb (product w m 1 a) a) tested.one_mul a h)

  pub raise_below : (a k : ℕ) → raise (product w m) a k < 2 ^ w
  raise_below a zero = tested.one_below
  raise_below a (suc k) = mul_below a _ (raise_below a k)

  pub raise_add : (a i j : ℕ) → raise (product w m) a (i + j) ≡ product w m (raise (product w m) a i) (raise (product w m) a j)
  raise_add a zero j = ap (raise (product w m) a) (zero-add j) ∙ sym (one_mul _ (raise_below a j))
  raise_add a (suc i) j =
      ap (raise (product w m) a) (suc-add i j) ∙ ap (product w m a) (raise_add a i j)
      ∙ sym (assoc a (raise (product w m) a i) (raise (product w m) a j) (raise_below a i) (raise_below a j))

  pub raise_mul : (a i j : ℕ) → raise (product w m) (raise (product w m) a i) j ≡ raise (product w m) a (i * j)
  raise_mul a i zero = ap (raise (product w m) a) (sym (mul-zero i))
  raise_mul a i (suc j) =
      ap (product w m (raise (product w m) a i)) (raise_mul a i j) ∙ sym (raise_add a i (i * j))
      ∙ ap (raise (product w m) a) (add_comm i (i * j) ∙ sym (mul-suc i j))

  pub raise_one : (k : ℕ) → raise (product w m) 1 k ≡ 1
  raise_one zero = refl
  raise_one (suc k) = ap (product w m 1) (raise_one k) ∙ one_mul 1 tested.one_below
