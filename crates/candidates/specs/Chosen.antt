-- The squares whose errors are taken out, and what is meant of an array laid out by a geometry.
--   Chosen   squares, all different and no more than a strip has
--   NearAt   a frame that an array agrees with, but for gone strips, a few wrong ones and the listed squares
--   HeldAt   an array of codes, and the table of its check sums
--   FoundAt  what the row decoder finds in each row of a table, in the places of all strips
-- Assumes nothing.
use Rattle.std.specs.Prelude.{◌≡◌, ℕ, ◌*◌, ◌<◌, ◌≤◌, Bool, List, length, slice_index}
use Rattle.laws.specs.Ops.{Ops}
use Rattle.geometry.specs.declared.Geometry.{Geometry}
use Rattle.solver.specs.Sums.{Apart, marked}
use Rattle.correction.specs.Nearing.{Near, Held, Found}
use Rattle.frame.specs.Tables.{Powers}

pub record Chosen (m n : ℕ) (squares : List ℕ) : Type 0 where
  pub few : length squares ≤ m
  pub places : (i : ℕ) → i < length squares → slice_index squares i < n * m
  pub apart : Apart squares

abbrev pub NearAt : Ops → Geometry → List Bool → (ℕ → Bool) → List ℕ → List ℕ → List ℕ → Type 0
NearAt F geometry gone wrong squares xs ys = Near F geometry.squares geometry.strips geometry.checks (marked gone) wrong squares 0 xs ys

abbrev pub HeldAt : Ops → Geometry → List ℕ → List ℕ → Type 0
HeldAt F geometry xs table = Held F geometry.squares geometry.strips geometry.checks xs table

abbrev pub FoundAt : Ops → Geometry → List Bool → List ℕ → List ℕ → Type 0
FoundAt F geometry gone table columns =
    (strips : List ℕ) → length strips ≡ geometry.strips → Powers F F.generator strips → Found F geometry.squares geometry.checks geometry.squares strips gone table columns
