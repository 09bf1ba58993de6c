-- A finite field on codes: the numbers below its order stand for its elements.
--   Ops       the order q, the generator g, and the four operations, each total on the natural numbers
--   power     x multiplied k times onto 1
--   sum       the sum of f 0 .. f (k - 1)
--   less      x minus y
--   Laws      what makes the operations a field's: all that an implementation shows, and no more
-- Assumes nothing.
use Rattle.std.specs.Prelude.{◌≡◌, ℕ, zero, suc, ◌+◌, ◌<◌, ◌≤◌, ◌≢◌, ◌⊎◌}

pub record Ops : Type 0 where
  pub order : ℕ
  pub generator : ℕ
  pub add : ℕ → ℕ → ℕ
  pub neg : ℕ → ℕ
  pub mul : ℕ → ℕ → ℕ
  pub inv : ℕ → ℕ

abbrev pub power : Ops → ℕ → ℕ → ℕ
power F x zero = 1
power F x (suc k) = F.mul x (power F x k)

abbrev pub sum : Ops → ℕ → (ℕ → ℕ) → ℕ
sum F zero f = 0
sum F (suc k) f = F.add (sum F k f) (f k)

abbrev pub less : Ops → ℕ → ℕ → ℕ
less F x y = F.add x (F.neg y)

pub record Laws (F : Ops) : Type 0 where
  -- the sizes
  pub order_least : 2 ≤ F.order
  pub order_most : F.order ≤ 256
  pub generator_least : 1 ≤ F.generator
  pub generator_code : F.generator < F.order
  -- every result is a code, whatever the operands are
  pub add_code : (x y : ℕ) → F.add x y < F.order
  pub neg_code : (x : ℕ) → F.neg x < F.order
  pub mul_code : (x y : ℕ) → F.mul x y < F.order
  pub inv_code : (x : ℕ) → F.inv x < F.order
  -- an operand that is no code gives 0, and so does the inverse of 0
  pub add_outside : (x y : ℕ) → (F.order ≤ x) ⊎ (F.order ≤ y) → F.add x y ≡ 0
  pub neg_outside : (x : ℕ) → F.order ≤ x → F.neg x ≡ 0
  pub mul_outside : (x y : ℕ) → (F.order ≤ x) ⊎ (F.order ≤ y) → F.mul x y ≡ 0
  pub inv_outside : (x : ℕ) → F.order ≤ x → F.inv x ≡ 0
  pub inv_zero : F.inv 0 ≡ 0
  -- the laws of a field, for codes
  pub add_comm : (x y : ℕ) → x < F.order → y < F.order → F.add x y ≡ F.add y x
  pub add_assoc : (x y z : ℕ) → x < F.order → y < F.order → z < F.order → F.add (F.add x y) z ≡ F.add x (F.add y z)
  pub add_zero : (x : ℕ) → x < F.order → F.add x 0 ≡ x
  pub add_neg : (x : ℕ) → x < F.order → F.add x (F.neg x) ≡ 0
  pub mul_comm : (x y : ℕ) → x < F.order → y < F.order → F.mul x y ≡ F.mul y x
  pub mul_assoc : (x y z : ℕ) → x < F.order → y < F.order → z < F.order → F.mul (F.mul x y) z ≡ F.mul x (F.mul y z)
  pub mul_one : (x : ℕ) → x < F.order → F.mul x 1 ≡ x
  pub mul_inv : (x : ℕ) → x < F.order → x ≢ 0 → F.mul x (F.inv x) ≡ 1
  pub mul_add : (x y z : ℕ) → x < F.order → y < F.order → z < F.order → F.mul x (F.add y z) ≡ F.add (F.mul x y) (F.mul x z)
  -- the powers of the generator, from exponent 0 to q - 2, are all different
  pub powers_apart : (i j : ℕ) → i < j → j + 1 < F.order → power F F.generator i ≢ power F F.generator j
