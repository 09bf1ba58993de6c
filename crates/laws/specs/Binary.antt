-- The field of 2^w elements: polynomials over the field of two, of degree below w, modulo m, a polynomial of degree w.
-- A polynomial is written as a number: its bit i is the coefficient of x^i. Addition is exclusive or.
--   pick        v where the bit s is 1, else 0
--   xtime       x times b, modulo m: each coefficient moves up by one, and where that gives x^w, m is taken away
--   times       the sum of x^i times b, modulo m, over each i below k of which a has the bit
--   product     a times b, modulo m
--   raise       a multiplied k times onto 1
--   reciprocal  a to the power 2^w - 2: the inverse of a, and 0 for 0
--   binary      the operations of the field, with the generator g; 0 where an operand is no code
-- Assumes nothing.
use Rattle.std.specs.Prelude.{ℕ, zero, suc, ◌-◌, ◌*◌, ◌/◌, ◌%◌, ◌^◌, cond, ◌==◌, bit_xor}
use Rattle.laws.specs.Ops.{Ops}
use Rattle.laws.specs.Inside.{inside}

abbrev pub pick : ℕ → ℕ → ℕ
pick s v = cond (s == 1) v 0

abbrev pub xtime : ℕ → ℕ → ℕ → ℕ
xtime w m b = bit_xor (b * 2) (pick (b / 2 ^ (w - 1) % 2) m)

abbrev pub times : ℕ → ℕ → ℕ → ℕ → ℕ → ℕ
times w m zero a b = 0
times w m (suc k) a b = bit_xor (pick (a % 2) b) (times w m k (a / 2) (xtime w m b))

unfoldable pub product : ℕ → ℕ → ℕ → ℕ → ℕ
product w m a b = times w m w a b

abbrev pub raise : (ℕ → ℕ → ℕ) → ℕ → ℕ → ℕ
raise mul a zero = 1
raise mul a (suc k) = mul a (raise mul a k)

unfoldable pub reciprocal : ℕ → ℕ → ℕ → ℕ
reciprocal w m a = raise (product w m) a (2 ^ w - 2)

abbrev pub binary : ℕ → ℕ → ℕ → Ops
binary w m g = record {
  order = 2 ^ w;
  generator = g;
  add = λ a b. inside (2 ^ w) a (inside (2 ^ w) b (bit_xor a b));
  neg = λ a. inside (2 ^ w) a a;
  mul = λ a b. inside (2 ^ w) a (inside (2 ^ w) b (product w m a b));
  inv = λ a. inside (2 ^ w) a (reciprocal w m a);
}
