-- A kept record is given back by every read and every mend: no history ends in a medium that does not suit. Assumes nothing.
use Rattle.std.proofs.Common.{ℕ, List, Result, inl, inr}
use Rattle.refusal.specs.declared.Refusal.{Refusal}
use Rattle.laws.specs.Ops.{Ops, Laws}
use Rattle.geometry.specs.declared.Geometry.{Geometry}
use Rattle.medium.specs.Meaning.{Meaning}
use Rattle.fitting.specs.declared.counts.Counts.{Counts}
use Rattle.kept.specs.Calls.{Mends, Copies}
use Rattle.kept.proofs.Runs.{loaded_reads_kept, loaded_mends_kept}
use Rattle.reel.specs.Calls.{code_on, Reading, Mending, Copying, ReadingKept, MendingKept}
use Rattle.reel.proofs.Found.{code_lawful}

module _ (F : Ops) (L : Laws F) (g : Geometry) (v w : Meaning) (f : ℕ) (r : Result Counts Refusal) where
  pub reading_kept : (out out' : List ℕ) → Reading F g v f out r out' w → ReadingKept F g v f out r out'
  reading_kept out out' o order = loaded_reads_kept g.order (code_on F g) order (code_lawful F g L order) v w f out out' r _ o

  -- a mend is a copy of a frame to itself
  copied : Copies (code_on F g) v f f r w → Mends (code_on F g) v f r w
  copied (inl x) = inl x
  copied (inr (_, inl x)) = inl x
  copied (inr (there, inr (_, o))) = inr (there, o)

  pub mending : Copying F g v f f r w → Mending F g v f r w
  mending (inl x) = inl x
  mending (inr (order, inl x)) = inr (order, inl x)
  mending (inr (order, inr (suits, o))) = inr (order, inr (suits, copied o))

  pub mending_kept : Copying F g v f f r w → MendingKept F g v f r w
  mending_kept o order = loaded_mends_kept g.order (code_on F g) order (code_lawful F g L order) v w f r _ (mending o)
