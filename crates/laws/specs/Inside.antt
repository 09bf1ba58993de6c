-- Operations made total.
--   inside   v where x is a code, below q; else 0
-- Assumes nothing.
use Rattle.std.specs.Prelude.{ℕ, cond, nat_lt}

abbrev pub inside : ℕ → ℕ → ℕ → ℕ
inside q x v = cond (nat_lt x q) v 0
