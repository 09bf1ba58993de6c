-- The rule that every geometry keeps.
--   Rule   for a field of order q: m squares in a strip, n strips in a frame, c of them check strips;
--          at least one square, one check strip and one other strip, and fewer squares in all than the field has codes
-- Assumes nothing.
use Rattle.std.specs.Prelude.{ℕ, ◌*◌, ◌<◌, ◌≤◌}

abbrev pub Rule : ℕ → ℕ → ℕ → ℕ → Type 0
Rule q m n c = (1 ≤ m) × (1 ≤ c) × (c < n) × (n * m < q)
