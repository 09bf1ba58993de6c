-- The calls on a reel, by the meaning v of its medium before and w after, its field and its geometry.
--   code_on     the published code over a field, with the numbers of a geometry
--   Ready       the geometry has the field's order, and the medium suits
--   Storing, Reading, Mending, Copying   what each call does: 2 where the reel is not ready, else as on a loaded reel
--   ReadingKept, MendingKept           whatever the reel went through since loading: a record that is kept is given back
-- Assumes nothing.
use Rattle.std.specs.Prelude.{◌≡◌, ℕ, List, Result}
use Rattle.refusal.specs.declared.Refusal.{Refusal}
use Rattle.laws.specs.Ops.{Ops}
use Rattle.geometry.specs.declared.Geometry.{Geometry}
use Rattle.medium.specs.Meaning.{Meaning}
use Rattle.fitting.specs.declared.counts.Counts.{Counts}
use Rattle.kept.specs.Code.{Code}
use Rattle.kept.specs.CodeOf.{code_of}
use Rattle.kept.specs.Calls.{Suits, Loaded, Stores, Reads, Mends, Copies}
use Rattle.kept.specs.History.{ReadsKept, MendsKept}

abbrev pub code_on : Ops → Geometry → Code
code_on F g = code_of F g.squares g.strips g.checks

pub record Ready (F : Ops) (g : Geometry) (v : Meaning) : Type 0 where
  pub order : g.order ≡ F.order
  pub suits : Suits (code_on F g) v

abbrev pub Storing : Ops → Geometry → Meaning → ℕ → List ℕ → Result (Unit {0}) Refusal → Meaning → Type 0
Storing F g v f symbols r w = Loaded g.order (code_on F g) v (w ≡ v) (Stores (code_on F g) v f symbols r w) r

abbrev pub Reading : Ops → Geometry → Meaning → ℕ → List ℕ → Result Counts Refusal → List ℕ → Meaning → Type 0
Reading F g v f out r out' w = Loaded g.order (code_on F g) v ((w ≡ v) × (out' ≡ out)) (Reads (code_on F g) v f out r out' w) r

abbrev pub Mending : Ops → Geometry → Meaning → ℕ → Result Counts Refusal → Meaning → Type 0
Mending F g v f r w = Loaded g.order (code_on F g) v (w ≡ v) (Mends (code_on F g) v f r w) r

abbrev pub Copying : Ops → Geometry → Meaning → ℕ → ℕ → Result Counts Refusal → Meaning → Type 0
Copying F g v from to r w = Loaded g.order (code_on F g) v (w ≡ v) (Copies (code_on F g) v from to r w) r

abbrev pub ReadingKept : Ops → Geometry → Meaning → ℕ → List ℕ → Result Counts Refusal → List ℕ → Type 0
ReadingKept F g v f out r out' = g.order ≡ F.order → ReadsKept (code_on F g) v f out r out'

abbrev pub MendingKept : Ops → Geometry → Meaning → ℕ → Result Counts Refusal → Meaning → Type 0
MendingKept F g v f r w = g.order ≡ F.order → MendsKept (code_on F g) v f r w
