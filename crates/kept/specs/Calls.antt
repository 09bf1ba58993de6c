-- What each of the four calls on a reel does, from the meaning v of its medium to the meaning w, with the answer r.
--   Suits      the medium has the strips and squares of the code, and levels enough
--   TooWorn    why what is shown gives no record, in this order
--   Finds      the array xs is found as the frame of a record that fits what is shown, and its counts are answered
--   Put        the codes xs are written as frame f, and it is then looked whether f shows them: a is answered, or 10
--   no_store, no_read, no_mend, no_copy   why the call is refused before it writes, in this order
--   Stores     writes the frame of a record as frame f
--   Reads      fills a buffer with the record whose frame fits what frame f shows
--   Moves      writes the frame that fits what `from` shows as frame `to`, unless that is too worn
--   Mends      writes the fitting frame back in its place
--   Copies     writes the fitting frame of one number under another
--   Loaded     what a call does on a loaded reel; where the order q of the geometry is not that of the field, or the medium does
--              not suit, it answers 2 and leaves all as it was
-- A refusal leaves the meaning and the buffer as they were; number 10 leaves every other frame so.
-- Assumes nothing.
use Rattle.std.specs.Prelude.{◌≡◌, ℕ, ◌<◌, ◌≤◌, false, ◌≢◌, List, [], ◌∷◌, length, Ok, Result}
use Rattle.refusal.specs.declared.Refusal.{Refusal}
use Rattle.refusal.specs.declared.Refusal.TheVariants.{Unsuited, NoSuchPlace, WrongLength, BadSymbol, Closed, TooManyGone, TooManyDoubtful, NoFit, NotShown}
use Rattle.refusal.specs.Codes.{Below}
use Rattle.refusal.specs.Outcome.{Cause, Outcome}
use Rattle.algebra.specs.Showings.{Showing}
use Rattle.medium.specs.Meaning.{Meaning}
use Rattle.medium.specs.Write.{Written}
use Rattle.fitting.specs.declared.counts.Counts.{Counts}
use Rattle.kept.specs.Code.{Code, room, counts, Fitting}
use Rattle.kept.specs.Shows.{shown_of, Shows}

pub record Suits (K : Code) (w : Meaning) : Type 0 where
  pub strips : w.strips ≡ K.n
  pub squares : w.squares ≡ K.m
  pub levels : K.order ≤ w.levels

abbrev pub TooWorn : Code → Showing → List Cause
TooWorn K seen =
    (TooManyGone, K.c ≤ K.gone seen)
    ∷ (TooManyDoubtful, K.m < K.doubtful seen)
    ∷ (NoFit, ((rec xs : List ℕ) → Fitting K seen rec xs → ⊥))
    ∷ []

abbrev pub Finds : Code → Showing → Result Counts Refusal → List ℕ → Type 0
Finds K seen r xs = Outcome (TooWorn K seen) (Unit {0}) ((rec : List ℕ) × Fitting K seen rec xs × (r ≡ Ok (counts K seen xs))) r

abbrev pub Put : {A : Type 0} → Meaning → ℕ → List ℕ → A → Result A Refusal → Meaning → Type 0
Put v f xs a r w = Written v f xs w × Outcome ((NotShown, (Shows w f xs → ⊥)) ∷ []) (Unit {0}) (r ≡ Ok a) r

abbrev pub no_store : Code → Meaning → ℕ → List ℕ → List Cause
no_store K v f rec =
    (NoSuchPlace, v.frames ≤ f)
    ∷ (WrongLength, length rec ≢ room K)
    ∷ (BadSymbol, (Below K.order rec → ⊥))
    ∷ (Closed, v.unlocked f ≡ false)
    ∷ []

abbrev pub no_read : Code → Meaning → ℕ → List ℕ → List Cause
no_read K v f out =
    (NoSuchPlace, v.frames ≤ f)
    ∷ (WrongLength, length out ≢ room K)
    ∷ TooWorn K (shown_of v f)

abbrev pub no_mend : Meaning → ℕ → List Cause
no_mend v f =
    (NoSuchPlace, v.frames ≤ f)
    ∷ (Closed, v.unlocked f ≡ false)
    ∷ []

abbrev pub no_copy : Meaning → ℕ → ℕ → List Cause
no_copy v from to =
    (NoSuchPlace, v.frames ≤ from)
    ∷ (NoSuchPlace, v.frames ≤ to)
    ∷ (Closed, v.unlocked to ≡ false)
    ∷ []

abbrev pub Stores : Code → Meaning → ℕ → List ℕ → Result (Unit {0}) Refusal → Meaning → Type 0
Stores K v f rec r w = Outcome (no_store K v f rec) (w ≡ v) ((xs : List ℕ) × K.frame_of rec xs × Put v f xs tt r w) r

abbrev pub Reads : Code → Meaning → ℕ → List ℕ → Result Counts Refusal → List ℕ → Meaning → Type 0
Reads K v f out r out' w =
    (w ≡ v) × Outcome (no_read K v f out) (out' ≡ out) ((xs : List ℕ) × Fitting K (shown_of v f) out' xs × (r ≡ Ok (counts K (shown_of v f) xs))) r

abbrev pub Moves : Code → Meaning → ℕ → ℕ → Result Counts Refusal → Meaning → Type 0
Moves K v from to r w =
    Outcome (TooWorn K (shown_of v from)) (w ≡ v) ((rec : List ℕ) × (xs : List ℕ) × Fitting K (shown_of v from) rec xs × Put v to xs (counts K (shown_of v from) xs) r w) r

abbrev pub Mends : Code → Meaning → ℕ → Result Counts Refusal → Meaning → Type 0
Mends K v f r w = Outcome (no_mend v f) (w ≡ v) (Moves K v f f r w) r

abbrev pub Copies : Code → Meaning → ℕ → ℕ → Result Counts Refusal → Meaning → Type 0
Copies K v from to r w = Outcome (no_copy v from to) (w ≡ v) (Moves K v from to r w) r

abbrev pub Loaded : {A : Type 0} → ℕ → Code → Meaning → Type 0 → Type 0 → Result A Refusal → Type 0
Loaded q K v left does r = Outcome ((Unsuited, q ≢ K.order) ∷ (Unsuited, (Suits K v → ⊥)) ∷ []) left does r
