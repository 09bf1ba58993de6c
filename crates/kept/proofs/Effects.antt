-- What a call leaves: it is refused and changes nothing, or a frame came to stand where it writes. Assumes nothing.
use Rattle.std.proofs.Common.{◌≡◌, ℕ, ◌<◌, ◌⊎◌, List, [], ◌∷◌, Ok, Err, Result, refl, ◌∙◌, inl, inr, lt_of_not-le, arith}
use Rattle.refusal.specs.declared.Refusal.{Refusal}
use Rattle.refusal.specs.declared.Refusal.TheVariants.{NotShown}
use Rattle.refusal.proofs.Causes.{granted, settled}
use Rattle.medium.specs.Meaning.{Meaning, SameShape}
use Rattle.medium.specs.Write.{Written}
use Rattle.fitting.specs.declared.counts.Counts.{Counts}
use Rattle.kept.specs.Code.{Code, counts, Fitting}
use Rattle.kept.specs.Shows.{shown_of, Shows}
use Rattle.kept.specs.Calls.{Suits, TooWorn, Put, Stores, Moves, Mends, Copies, no_store, no_mend, no_copy}
use Rattle.kept.specs.History.{History, loaded, store, read, mend, copy, wear}
use Rattle.kept.proofs.Shown.{shows_written}

-- the codes xs came to stand at f
pub record Landed (v : Meaning) (f : ℕ) (xs : List ℕ) (w : Meaning) : Type 0 where
  pub put : Written v f xs w
  pub there : f < v.frames
  pub shown : Shows w f xs

-- a call that writes at f: it is refused and changes nothing, or codes of which Q holds came to stand there
abbrev pub Effect : {A : Type 0} → Meaning → ℕ → (A → List ℕ → Type 0) → Result A Refusal → Meaning → Type 0
Effect {A} v f Q r w = ((k : Refusal) × (r ≡ Err k) × (w ≡ v)) ⊎ ((a : A) × (xs : List ℕ) × (r ≡ Ok a) × Q a xs × Landed v f xs w)

-- what is written is shown, so that number 10 never comes
pub never_unshown : {A : Type 0} (v w : Meaning) (f : ℕ) (xs : List ℕ) (a : A) (r : Result A Refusal) → Put v f xs a r w → (r ≡ Ok a) × Shows w f xs
never_unshown v w f xs a r p =
    let s : Shows w f xs = shows_written v w f xs p.0 in
    (granted _ _ r ((NotShown, (Shows w f xs → ⊥)) ∷ []) ((λ ne. ne s), tt) p.1, s)

land : {A : Type 0} (v w : Meaning) (f : ℕ) (xs : List ℕ) (a : A) (r : Result A Refusal) → f < v.frames → Put v f xs a r w → (r ≡ Ok a) × Landed v f xs w
land v w f xs a r h p =
    let s = never_unshown v w f xs a r p in
    (s.0, record { put = p.0; there = h; shown = s.1 })

same_same : (v w : Meaning) → w ≡ v → SameShape v w
same_same v w e = record { frames = λ i. (e i).frames; strips = λ i. (e i).strips; squares = λ i. (e i).squares; levels = λ i. (e i).levels }

effect_shape : {A : Type 0} (v w : Meaning) (f : ℕ) (Q : A → List ℕ → Type 0) (r : Result A Refusal) → Effect v f Q r w → SameShape v w
effect_shape v w f Q r (inl x) = same_same v w x.2
effect_shape v w f Q r (inr y) = y.4.put.shape

module _ (K : Code) where
  pub store_effect : (v w : Meaning) (f : ℕ) (rec : List ℕ) (r : Result (Unit {0}) Refusal) → Stores K v f rec r w → Effect v f (λ _ xs. K.frame_of rec xs) r w
  store_effect v w f rec r o =
      elim (settled _ _ r (no_store K v f rec) o) [
        | inl x ↦ inl x
        | inr y ↦ (let l = land v w f y.1.0 tt r (lt_of_not-le y.0.0) y.1.2 in inr (tt, y.1.0, l.0, y.1.1, l.1))
      ]

  -- the frame that was moved, and its counts
  abbrev pub Moved : Meaning → ℕ → Counts → List ℕ → Type 0
  Moved v from a xs = (rec : List ℕ) × Fitting K (shown_of v from) rec xs × (a ≡ counts K (shown_of v from) xs)

  moved : (v w : Meaning) (from to : ℕ) (r : Result Counts Refusal) → to < v.frames → Moves K v from to r w → Effect v to (Moved v from) r w
  moved v w from to r h o =
      elim (settled _ _ r (TooWorn K (shown_of v from)) o) [
        | inl x ↦ inl x
        | inr y ↦ (let m = y.1 in
            let l = land v w to m.1 (counts K (shown_of v from) m.1) r h m.3 in
            inr (counts K (shown_of v from) m.1, m.1, l.0, (m.0, m.2, refl), l.1))
      ]

  pub mend_effect : (v w : Meaning) (f : ℕ) (r : Result Counts Refusal) → Mends K v f r w → Effect v f (Moved v f) r w
  mend_effect v w f r o =
      elim (settled _ _ r (no_mend v f) o) [ inl x ↦ inl x | inr y ↦ moved v w f f r (lt_of_not-le y.0.0) y.1 ]

  pub copy_effect : (v w : Meaning) (from to : ℕ) (r : Result Counts Refusal) → Copies K v from to r w → Effect v to (Moved v from) r w
  copy_effect v w from to r o =
      elim (settled _ _ r (no_copy v from to) o) [ inl x ↦ inl x | inr y ↦ moved v w from to r (lt_of_not-le y.0.1.0) y.1 ]

  suits_after : (v w : Meaning) → SameShape v w → Suits K v → Suits K w
  suits_after v w s h = record { strips = s.strips ∙ h.strips; squares = s.squares ∙ h.squares; levels = omega arith }

  -- the medium of a loaded reel always suits
  pub suits : {start w : Meaning} → History K start w → Suits K w
  suits (loaded s) = s
  suits (store {v} {w} h f rec r o) = suits_after v w (effect_shape v w f _ r (store_effect v w f rec r o)) (suits h)
  suits (read {v} {w} h f out out' r o) = suits_after v w (same_same v w o.0) (suits h)
  suits (mend {v} {w} h f r o) = suits_after v w (effect_shape v w f _ r (mend_effect v w f r o)) (suits h)
  suits (copy {v} {w} h from to r o) = suits_after v w (effect_shape v w to _ r (copy_effect v w from to r o)) (suits h)
  suits (wear {v} {w} h s) = suits_after v w s (suits h)
