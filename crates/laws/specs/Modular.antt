-- The field of p elements, p a prime: the numbers below p, with sums and products modulo p.
--   modular   the operations of the field, with the generator g; 0 where an operand is no code. The inverse is the power p - 2
-- Assumes nothing.
use Rattle.std.specs.Prelude.{ℕ, ◌+◌, ◌-◌, ◌*◌, ◌%◌, ◌^◌}
use Rattle.laws.specs.Ops.{Ops}
use Rattle.laws.specs.Inside.{inside}

abbrev pub modular : ℕ → ℕ → Ops
modular p g = record {
  order = p;
  generator = g;
  add = λ a b. inside p a (inside p b ((a + b) % p));
  neg = λ a. inside p a ((p - a) % p);
  mul = λ a b. inside p a (inside p b (a * b % p));
  inv = λ a. inside p a (a ^ (p - 2) % p);
}
