-- What a reel has been through, the records that it keeps by the book, and what that promises.
--   History   any list of the four calls, each with values and a buffer of its own, granted or refused, and of wear, from
--             loading at the meaning `start` on
--   Held      the record's frame fits what frame f shows
--   Book      for each frame number the record that stands under it
--   entered   the book with a record of which P holds under the number g, in place of an older entry
--   accepted  the change that an accepted call makes; a refused one makes none
--   book      empty at loading; an accepted store enters its record, an accepted copy under its target the record whose frame
--             fits what the source showed before; after a wear the entries that do not fit what is now shown are struck out
--   Stands    of a record and its frame xs at the number f: xs fits what f shows; a read with a buffer of the right length
--             returns the record and its three counts; a mend of f while it is open is granted, answers the same counts, and
--             leaves no strip of f gone and each square clear, coded as in xs
--   Kept      the book has at most one record for each number, and each of them stands; after an accepted store it has the
--             record that was stored, after an accepted copy the record that the source held
--   ReadsKept, MendsKept   the same of one read and of one mend, after every history that ends in the present meaning
-- Assumes nothing.
use Rattle.std.specs.Prelude.{◌≡◌, ℕ, true, ◌≢◌, ◌⊎◌, List, length, Ok, Err, Result}
use Rattle.refusal.specs.declared.Refusal.{Refusal}
use Rattle.medium.specs.Meaning.{Meaning, Worn}
use Rattle.fitting.specs.declared.counts.Counts.{Counts}
use Rattle.kept.specs.Code.{Code, room, counts, Fitting}
use Rattle.kept.specs.Shows.{shown_of, Shows}
use Rattle.kept.specs.Calls.{Suits, Stores, Reads, Mends, Copies}

pub data History (K : Code) (start : Meaning) : Meaning → Type 0 where
  loaded : Suits K start → History K start start
  store : {v w : Meaning} → History K start v → (f : ℕ) (rec : List ℕ) (r : Result (Unit {0}) Refusal) → Stores K v f rec r w → History K start w
  read : {v w : Meaning} → History K start v → (f : ℕ) (out out' : List ℕ) (r : Result Counts Refusal) → Reads K v f out r out' w → History K start w
  mend : {v w : Meaning} → History K start v → (f : ℕ) (r : Result Counts Refusal) → Mends K v f r w → History K start w
  copy : {v w : Meaning} → History K start v → (from to : ℕ) (r : Result Counts Refusal) → Copies K v from to r w → History K start w
  wear : {v w : Meaning} → History K start v → Worn v w → History K start w

abbrev pub Held : Code → Meaning → ℕ → List ℕ → Type 0
Held K w f rec = (xs : List ℕ) × Fitting K (shown_of w f) rec xs

abbrev pub Book : Type 1
Book = ℕ → List ℕ → Type 0

abbrev pub entered : ℕ → (List ℕ → Type 0) → Book → Book
entered g P b f rec = ((f ≡ g) × P rec) ⊎ ((f ≢ g) × b f rec)

abbrev pub accepted : {A : Type 0} → Result A Refusal → Book → Book → Book
accepted (Ok _) new old = new
accepted (Err _) new old = old

abbrev pub book : {K : Code} {start w : Meaning} → History K start w → Book
book (loaded s) = λ f rec. ⊥
book (store h g rec r s) = accepted r (entered g (λ sec. sec ≡ rec) (book h)) (book h)
book (read h g out out' r s) = book h
book (mend h g r s) = book h
book {K} (copy {v} h from to r s) = accepted r (entered to (Held K v from) (book h)) (book h)
book {K} {w = w} (wear h s) = λ f rec. book h f rec × Held K w f rec

pub record Stands (K : Code) (w : Meaning) (f : ℕ) (rec xs : List ℕ) : Type 0 where
  pub fitting : Fitting K (shown_of w f) rec xs
  pub reads : (out out' : List ℕ) (r : Result Counts Refusal) (w' : Meaning) → Reads K w f out r out' w' → length out ≡ room K
      → (r ≡ Ok (counts K (shown_of w f) xs)) × (out' ≡ rec)
  pub mends : (r : Result Counts Refusal) (w' : Meaning) → Mends K w f r w' → w.unlocked f ≡ true
      → (r ≡ Ok (counts K (shown_of w f) xs)) × Shows w' f xs

pub record Kept (K : Code) : Type 0 where
  pub one : {start w : Meaning} (h : History K start w) (f : ℕ) (rec sec : List ℕ) → book h f rec → book h f sec → rec ≡ sec
  pub stands : {start w : Meaning} (h : History K start w) (f : ℕ) (rec : List ℕ) → book h f rec → (xs : List ℕ) × Stands K w f rec xs
  pub stored : {start v w : Meaning} (h : History K start v) (f : ℕ) (rec : List ℕ) (s : Stores K v f rec (Ok tt) w) → book (store h f rec (Ok tt) s) f rec
  pub copied : {start v w : Meaning} (h : History K start v) (from to : ℕ) (a : Counts) (s : Copies K v from to (Ok a) w)
      → (rec : List ℕ) × Held K v from rec × book (copy h from to (Ok a) s) to rec

abbrev pub ReadsKept : Code → Meaning → ℕ → List ℕ → Result Counts Refusal → List ℕ → Type 0
ReadsKept K w f out r out' =
    (start : Meaning) (h : History K start w) (rec : List ℕ) → book h f rec → length out ≡ room K
    → (xs : List ℕ) × Fitting K (shown_of w f) rec xs × (r ≡ Ok (counts K (shown_of w f) xs)) × (out' ≡ rec)

abbrev pub MendsKept : Code → Meaning → ℕ → Result Counts Refusal → Meaning → Type 0
MendsKept K w f r w' =
    (start : Meaning) (h : History K start w) (rec : List ℕ) → book h f rec → w.unlocked f ≡ true
    → (xs : List ℕ) × Fitting K (shown_of w f) rec xs × (r ≡ Ok (counts K (shown_of w f) xs)) × Shows w' f xs
