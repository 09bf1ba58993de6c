-- What making a frame answers.
--   no_frame   why it is refused, in this order
--   Encodes    refused, and the buffer is as it was; or the buffer holds the frame of the record
-- Assumes nothing.
use Rattle.std.specs.Prelude.{◌≡◌, ℕ, ◌*◌, ◌≢◌, ◌⊎◌, List, [], ◌∷◌, length, Ok, Result}
use Rattle.refusal.specs.declared.Refusal.{Refusal}
use Rattle.refusal.specs.declared.Refusal.TheVariants.{Unsuited, WrongLength, BadSymbol}
use Rattle.refusal.specs.Codes.{Below}
use Rattle.refusal.specs.Outcome.{Cause, Outcome}
use Rattle.laws.specs.Ops.{Ops}
use Rattle.geometry.specs.declared.Geometry.{Geometry}
use Rattle.algebra.specs.Frames.{FrameOf, record_size}

abbrev pub no_frame : Ops → Geometry → List ℕ → List ℕ → List Cause
no_frame F g symbols out =
    (Unsuited, g.order ≢ F.order)
    ∷ (WrongLength, ((length symbols ≢ record_size g.squares g.strips g.checks) ⊎ (length out ≢ g.strips * g.squares)))
    ∷ (BadSymbol, (Below F.order symbols → ⊥))
    ∷ []

abbrev pub Encodes : Ops → Geometry → List ℕ → List ℕ → Result (Unit {0}) Refusal → List ℕ → Type 0
Encodes F g symbols out r out' =
    Outcome (no_frame F g symbols out) (out' ≡ out) ((r ≡ Ok tt) × FrameOf F g.squares g.strips g.checks symbols out') r
