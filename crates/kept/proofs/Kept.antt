-- Kept records stand, over every lawful code: by induction on the history, each entry's frame fits what its number shows.
-- Assumes nothing.
use Rattle.std.proofs.Common.{◌≡◌, ℕ, ◌<◌, ◌≢◌, List, take, Ok, Result, sym, refl, ap, ◌∙◌, subst, inl, inr, ⊎_elim, arith}
use Rattle.std.proofs.lemmas.Bool.{cases_eq, both_ways}
use Rattle.refusal.specs.declared.Refusal.{Refusal}
use Rattle.refusal.proofs.Causes.{None, granted, ok_not_err}
use Rattle.medium.specs.Meaning.{Meaning}
use Rattle.fitting.specs.declared.counts.Counts.{Counts}
use Rattle.kept.specs.Code.{Code, Lawful, room, counts, Fitting}
use Rattle.kept.specs.Shows.{shown_of, Shows}
use Rattle.kept.specs.Calls.{Suits, TooWorn, Reads, Mends, Copies, no_read, no_mend}
use Rattle.kept.specs.History.{History, loaded, store, read, mend, copy, wear, Held, Book, entered, accepted, book, Stands, Kept, ReadsKept, MendsKept}
use Rattle.kept.proofs.Shown.{shown_beside, shows_exactly}
use Rattle.kept.proofs.Effects.{Landed, Effect, Moved, never_unshown, store_effect, mend_effect, copy_effect, suits}

module _ (K : Code) (laws : Lawful K) where
  same_record : (rec sec xs ys : List ℕ) → K.frame_of rec xs → K.frame_of sec ys → xs ≡ ys → rec ≡ sec
  same_record rec sec xs ys p q e = laws.record_front rec xs p ∙ ap (take (room K)) e ∙ sym (laws.record_front sec ys q)

  same_fit : (w : Meaning) (f : ℕ) (rec sec xs ys : List ℕ) → Fitting K (shown_of w f) rec xs → Fitting K (shown_of w f) sec ys → xs ≡ ys
  same_fit w f rec sec xs ys p q = laws.one_fit (shown_of w f) rec sec xs ys p q

  -- whatever a frame shows, it holds one record or none
  pub one_held : (w : Meaning) (f : ℕ) (rec sec : List ℕ) → Held K w f rec → Held K w f sec → rec ≡ sec
  one_held w f rec sec p q = same_record rec sec p.0 q.0 p.1.frame q.1.frame (same_fit w f rec sec p.0 q.0 p.1 q.1)

  -- the invariant
  abbrev Safe : Meaning → ℕ → List ℕ → Type 0
  Safe w f rec = (f < w.frames) × Held K w f rec

  safe_here : (v w : Meaning) (f : ℕ) (rec xs : List ℕ) → Suits K w → Landed v f xs w → K.frame_of rec xs → Safe w f rec
  safe_here v w f rec xs ok l fr =
      let n : w.frames ≡ v.frames = l.put.shape.frames in
      let h : f < v.frames = l.there in
      (omega arith, (xs, record { frame = fr; fit = laws.exact (shown_of w f) rec xs fr (shows_exactly w f K.m K.n xs laws.some_squares ok.strips ok.squares l.shown) }))

  safe_beside : (v w : Meaning) (g f : ℕ) (rec xs : List ℕ) → Landed v g xs w → f ≢ g → Safe v f rec → Safe w f rec
  safe_beside v w g f rec xs l ne s =
      let n : w.frames ≡ v.frames = l.put.shape.frames in
      (subst (λ k. f < k) (sym n) s.0, subst (λ t. (ys : List ℕ) × Fitting K t rec ys) (sym (shown_beside v w g f xs l.put ne)) s.1)

  enter_safe : {A : Type 0} (v w : Meaning) (g : ℕ) (Q : A → List ℕ → Type 0) (r : Result A Refusal) (P : List ℕ → Type 0) (old : Book)
      → ((a : A) (xs rec : List ℕ) → Q a xs → P rec → K.frame_of rec xs) → Suits K w → ((f : ℕ) (rec : List ℕ) → old f rec → Safe v f rec)
      → Effect v g Q r w → (f : ℕ) (rec : List ℕ) → accepted r (entered g P old) old f rec → Safe w f rec
  enter_safe v w g Q r P old of ok safe (inl x) f rec b =
      subst (λ u. Safe u f rec) (sym x.2) (safe f rec (subst (λ q. accepted q (entered g P old) old f rec) x.1 b))
  enter_safe v w g Q r P old of ok safe (inr y) f rec b =
      ⊎_elim (λ p. subst (λ k. Safe w k rec) (sym p.0) (safe_here v w g rec y.1 ok y.4 (of y.0 y.1 rec y.3 p.1)))
      (λ p. safe_beside v w g f rec y.1 y.4 p.0 (safe f rec p.1))
      (subst (λ q. accepted q (entered g P old) old f rec) y.2 b)

  pub safe : {start w : Meaning} (h : History K start w) (f : ℕ) (rec : List ℕ) → book h f rec → Safe w f rec
  safe (loaded s) f rec b = absurd b
  safe (store {v} {w} h g sec r o) f rec b =
      enter_safe v w g (λ _ xs. K.frame_of sec xs) r (λ t. t ≡ sec) (book h) (λ a xs t q e. subst (λ u. K.frame_of u xs) (sym e) q) (suits K (store h g sec r o)) (safe h)
      (store_effect K v w g sec r o) f rec b
  safe (read {v} {w} h g out out' r o) f rec b = subst (λ u. Safe u f rec) (sym o.0) (safe h f rec b)
  safe (mend {v} {w} h g r o) f rec b =
      let old : Safe v f rec = safe h f rec b in
      elim (mend_effect K v w g r o) [
        | inl x ↦ subst (λ u. Safe u f rec) (sym x.2) old
        | inr y ↦ ⊎_elim
            (λ e. let p : Fitting K (shown_of v g) rec old.1.0 = subst (λ k. Fitting K (shown_of v k) rec old.1.0) e old.1.1 in
            subst (λ k. Safe w k rec) (sym e) (safe_here v w g rec y.1 (suits K (mend h g r o)) y.4 (subst (K.frame_of rec) (same_fit v g rec y.3.0 old.1.0 y.1 p y.3.1) p.frame)))
            (λ ne. safe_beside v w g f rec y.1 y.4 ne old) (cases_eq f g)
      ]
  safe (copy {v} {w} h from to r o) f rec b =
      enter_safe v w to (Moved K v from) r (Held K v from) (book h)
      (λ a xs t q p. subst (K.frame_of t) (same_fit v from t q.0 p.0 xs p.1 q.1) p.1.frame) (suits K (copy h from to r o)) (safe h)
      (copy_effect K v w from to r o) f rec b
  safe (wear {v} {w} h s) f rec b = (subst (λ k. f < k) (sym s.frames) (safe h f rec b.0).0, b.1)

  -- nothing is too worn where a record's frame fits
  fit_worn : (w : Meaning) (f : ℕ) (rec xs : List ℕ) → Fitting K (shown_of w f) rec xs → None (TooWorn K (shown_of w f))
  fit_worn w f rec xs p =
      let few = laws.fits_few (shown_of w f) rec xs p in
      ((λ h. omega arith), ((λ h. omega arith), ((λ none. none rec xs p), tt)))

  pub stands : {start w : Meaning} (h : History K start w) (f : ℕ) (rec : List ℕ) → book h f rec → (xs : List ℕ) × Stands K w f rec xs
  stands {w = w} h f rec b =
      let s = safe h f rec b in
      let xs = s.1.0 in
      let p : Fitting K (shown_of w f) rec xs = s.1.1 in
      let there : f < w.frames = s.0 in (
        xs,
        record {
          fitting = p;
          reads = λ out out' r w' o long.
              (let got = granted _ _ r (no_read K w f out) ((λ k. omega arith), ((λ no. no long), fit_worn w f rec xs p)) o.1 in
              let e = same_fit w f out' rec got.0 xs got.1 p in
              (got.2 ∙ ap (λ t. Ok (counts K (shown_of w f) t)) e, same_record out' rec got.0 xs got.1.frame p.frame e));
          mends = λ r w' o unlocked.
              (let got = granted _ _ r (no_mend w f) ((λ k. omega arith), ((λ no. both_ways (w.unlocked f) no unlocked), tt)) o in
              let got = granted _ _ r (TooWorn K (shown_of w f)) (fit_worn w f rec xs p) got in
              let e = same_fit w f got.0 rec got.1 xs got.2 p in
              let l = never_unshown w w' f got.1 (counts K (shown_of w f) got.1) r got.3 in
              (l.0 ∙ ap (λ t. Ok (counts K (shown_of w f) t)) e, subst (Shows w' f) e l.1));
        },
      )

  copied : {start v w : Meaning} (h : History K start v) (from to : ℕ) (a : Counts) (o : Copies K v from to (Ok a) w)
      → (rec : List ℕ) × Held K v from rec × book (copy h from to (Ok a) o) to rec
  copied {v = v} {w = w} h from to a o = elim (copy_effect K v w from to (Ok a) o) [
    | inl x ↦ absurd (ok_not_err (Ok a) refl x.1)
    | inr y ↦ (let held : Held K v from y.3.0 = (y.1, y.3.1) in (y.3.0, held, inl (refl, held)))
  ]

  pub kept : Kept K
  kept = record {
    one = λ {start} {w} h f rec sec b b'. one_held w f rec sec (safe h f rec b).1 (safe h f sec b').1;
    stands = stands;
    stored = λ h f rec o. inl (refl, refl);
    copied = copied;
  }

  pub reads_kept : (w w' : Meaning) (f : ℕ) (out out' : List ℕ) (r : Result Counts Refusal) → Reads K w f out r out' w' → ReadsKept K w f out r out'
  reads_kept w w' f out out' r o start h rec b long =
      let s = stands h f rec b in
      let got = s.1.reads out out' r w' o long in
      (s.0, s.1.fitting, got.0, got.1)

  pub mends_kept : (w w' : Meaning) (f : ℕ) (r : Result Counts Refusal) → Mends K w f r w' → MendsKept K w f r w'
  mends_kept w w' f r o start h rec b unlocked =
      let s = stands h f rec b in
      let got = s.1.mends r w' o unlocked in
      (s.0, s.1.fitting, got.0, got.1)
