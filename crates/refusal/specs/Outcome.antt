-- What a call answers: it is refused exactly if a cause named for it holds, and by the first of them in its order.
--   Cause     a refusal, and what has to hold for it
--   Outcome   by the causes in their order: refused, with what a refusal leaves; or no cause holds, and what is granted
-- Assumes nothing.
use Rattle.std.specs.Prelude.{◌≡◌, ◌⊎◌, List, [], ◌∷◌, Err, Result}
use Rattle.refusal.specs.declared.Refusal.{Refusal}

abbrev pub Cause : Type 1
Cause = Refusal × Type 0

abbrev pub Outcome : {A : Type 0} → List Cause → Type 0 → Type 0 → Result A Refusal → Type 0
Outcome [] left granted r = granted
Outcome (c ∷ more) left granted r = (c.1 × (r ≡ Err c.0) × left) ⊎ ((c.1 → ⊥) × Outcome more left granted r)
