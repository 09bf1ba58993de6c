-- What is kept of a line that comes byte by byte.
--   Kept     the first bytes of a line, as many as there is room for
--   Enough   what is kept where there is room for more than 36 bytes is answered as the whole line is
-- Assumes nothing.
use Rattle.std.specs.Prelude.{◌≡◌, ℕ, ◌<◌, List, take, Result}
use Rattle.refusal.specs.declared.Refusal.{Refusal}
use Rattle.geometry.specs.declared.Geometry.{Geometry}
use Rattle.cardtext.specs.Text.{FramesLine}

abbrev pub Kept : ℕ → List ℕ → List ℕ → Type 0
Kept room line kept = kept ≡ take room line

abbrev pub Enough : Type 0
Enough = (g : Geometry) (room : ℕ) (line kept out : List ℕ) (r : Result ℕ Refusal) (out' : List ℕ)
    → 36 < room → Kept room line kept → FramesLine g kept out r out' → FramesLine g line out r out'
