-- One more call on a loaded reel: a loaded medium suits, so the history goes on, and what was kept is given back.
-- Assumes nothing.
use Rattle.std.proofs.Common.{◌≡◌, ℕ, ◌≢◌, List, [], ◌∷◌, Ok, Result, sym, refl, subst, inl}
use Rattle.refusal.specs.declared.Refusal.{Refusal}
use Rattle.refusal.specs.declared.Refusal.TheVariants.{Unsuited}
use Rattle.refusal.proofs.Causes.{granted}
use Rattle.medium.specs.Meaning.{Meaning}
use Rattle.fitting.specs.declared.counts.Counts.{Counts}
use Rattle.kept.specs.Code.{Code, Lawful}
use Rattle.kept.specs.Calls.{Suits, Loaded, Stores, Reads, Mends, Copies}
use Rattle.kept.specs.History.{History, store, read, mend, copy, entered, accepted, book, ReadsKept, MendsKept}
use Rattle.kept.proofs.Effects.{suits}
use Rattle.kept.proofs.Kept.{reads_kept, mends_kept}

module _ (q : ℕ) (K : Code) (same : q ≡ K.order) where
  pub loaded_does : {A : Type 0} {start w : Meaning} (h : History K start w) (left does : Type 0) (r : Result A Refusal) → Loaded q K w left does r → does
  loaded_does {w = w} h left does r o = granted _ _ r ((Unsuited, q ≢ K.order) ∷ (Unsuited, (Suits K w → ⊥)) ∷ []) ((λ no. no same), ((λ no. no (suits K h)), tt)) o

  pub after_store : {start v : Meaning} (w : Meaning) (h : History K start v) (f : ℕ) (rec : List ℕ) (r : Result (Unit {0}) Refusal) (left : Type 0)
      → Loaded q K v left (Stores K v f rec r w) r → History K start w
  after_store w h f rec r left o = store h f rec r (loaded_does h left _ r o)

  pub after_read : {start v : Meaning} (w : Meaning) (h : History K start v) (f : ℕ) (out out' : List ℕ) (r : Result Counts Refusal) (left : Type 0)
      → Loaded q K v left (Reads K v f out r out' w) r → History K start w
  after_read w h f out out' r left o = read h f out out' r (loaded_does h left _ r o)

  pub after_mend : {start v : Meaning} (w : Meaning) (h : History K start v) (f : ℕ) (r : Result Counts Refusal) (left : Type 0)
      → Loaded q K v left (Mends K v f r w) r → History K start w
  after_mend w h f r left o = mend h f r (loaded_does h left _ r o)

  pub after_copy : {start v : Meaning} (w : Meaning) (h : History K start v) (from to : ℕ) (r : Result Counts Refusal) (left : Type 0)
      → Loaded q K v left (Copies K v from to r w) r → History K start w
  after_copy w h from to r left o = copy h from to r (loaded_does h left _ r o)

  -- an accepted store is kept
  pub after_store_kept : {start v : Meaning} (w : Meaning) (h : History K start v) (f : ℕ) (rec : List ℕ) (r : Result (Unit {0}) Refusal) (left : Type 0)
      (o : Loaded q K v left (Stores K v f rec r w) r) → r ≡ Ok tt → book (after_store w h f rec r left o) f rec
  unfolding after_store
  after_store_kept w h f rec r left o e = subst (λ s. accepted s (entered f (λ t. t ≡ rec) (book h)) (book h) f rec) (sym e) (inl (refl, refl))

module _ (q : ℕ) (K : Code) (same : q ≡ K.order) (laws : Lawful K) where
  -- no history ends in a medium that does not suit
  pub loaded_reads_kept : (w w' : Meaning) (f : ℕ) (out out' : List ℕ) (r : Result Counts Refusal) (left : Type 0)
      → Loaded q K w left (Reads K w f out r out' w') r → ReadsKept K w f out r out'
  loaded_reads_kept w w' f out out' r left o start h = reads_kept K laws w w' f out out' r (loaded_does q K same h left _ r o) start h

  pub loaded_mends_kept : (w w' : Meaning) (f : ℕ) (r : Result Counts Refusal) (left : Type 0)
      → Loaded q K w left (Mends K w f r w') r → MendsKept K w f r w'
  loaded_mends_kept w w' f r left o start h = mends_kept K laws w w' f r (loaded_does q K same h left _ r o) start h
