-- What is promised of every reel, over every field that keeps the laws, every geometry and every medium.
--   KeptRecords    through every list of calls and of wear, a record that the book keeps stands
--   RecordsApart   whatever a frame shows, no two different records have frames that fit it
-- Assumes nothing.
use Rattle.std.specs.Prelude.{◌≡◌, ℕ, List}
use Rattle.laws.specs.Ops.{Ops, Laws}
use Rattle.geometry.specs.Rule.{Rule}
use Rattle.medium.specs.Meaning.{Meaning}
use Rattle.kept.specs.CodeOf.{code_of}
use Rattle.kept.specs.History.{Held, Kept}

abbrev pub KeptRecords : Type 0
KeptRecords = (F : Ops) → Laws F → (m n c : ℕ) → Rule F.order m n c → Kept (code_of F m n c)

abbrev pub RecordsApart : Type 0
RecordsApart = (F : Ops) → Laws F → (m n c : ℕ) → Rule F.order m n c → (w : Meaning) (f : ℕ) (rec sec : List ℕ)
    → Held (code_of F m n c) w f rec → Held (code_of F m n c) w f sec → rec ≡ sec
