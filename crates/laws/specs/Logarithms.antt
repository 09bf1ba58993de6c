-- Logarithms in a field of order q with the generator g, as tables of them stand in code.
--   Log       r is the logarithm of a: r < q - 1 and g^r = a. 0 has none, and r is 2 q for it, beyond any sum of two others
--   antilog   g^k where k may be a sum of two logarithms, else 0
-- Assumes nothing.
use Rattle.std.specs.Prelude.{◌≡◌, ℕ, ◌+◌, ◌-◌, ◌*◌, ◌<◌, cond, ◌⊎◌, nat_lt}
use Rattle.laws.specs.Ops.{Ops, power}

abbrev pub Log : Ops → ℕ → ℕ → Type 0
Log F a r = ((a ≡ 0) × (r ≡ 2 * F.order)) ⊎ ((r + 1 < F.order) × (power F F.generator r ≡ a))

abbrev pub antilog : Ops → ℕ → ℕ
antilog F k = cond (nat_lt k (2 * (F.order - 1))) (power F F.generator k) 0
