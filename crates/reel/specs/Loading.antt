-- What a reel is loaded with.
--   no_load   why these numbers do not load a medium of the meaning v, in this order
--   LaidOut   the geometry has these numbers
--   Loads     refused, or the geometry of these numbers is handed out, and a reel of it over the medium is ready
-- Assumes nothing.
use Rattle.std.specs.Prelude.{◌≡◌, ℕ, ◌≢◌, List, [], ◌∷◌, Ok, Result}
use Rattle.refusal.specs.declared.Refusal.{Refusal}
use Rattle.refusal.specs.declared.Refusal.TheVariants.{BadGeometry, Unsuited}
use Rattle.refusal.specs.Outcome.{Cause, Outcome}
use Rattle.laws.specs.Ops.{Ops}
use Rattle.geometry.specs.Rule.{Rule}
use Rattle.geometry.specs.declared.Geometry.{Geometry}
use Rattle.medium.specs.Meaning.{Meaning}
use Rattle.kept.specs.CodeOf.{code_of}
use Rattle.kept.specs.Calls.{Suits}
use Rattle.reel.specs.Calls.{Ready}

abbrev pub no_load : Ops → Meaning → ℕ → ℕ → ℕ → ℕ → List Cause
no_load F v q m n c =
    (BadGeometry, (Rule q m n c → ⊥))
    ∷ (Unsuited, q ≢ F.order)
    ∷ (Unsuited, (Suits (code_of F m n c) v → ⊥))
    ∷ []

pub record LaidOut (q m n c : ℕ) (g : Geometry) : Type 0 where
  pub order : g.order ≡ q
  pub squares : g.squares ≡ m
  pub strips : g.strips ≡ n
  pub checks : g.checks ≡ c

abbrev pub Loads : Ops → Meaning → ℕ → ℕ → ℕ → ℕ → Result Geometry Refusal → Type 0
Loads F v q m n c r = Outcome (no_load F v q m n c) (Unit {0}) ((g : Geometry) × (r ≡ Ok g) × LaidOut q m n c g × Ready F g v) r
