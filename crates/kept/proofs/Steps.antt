-- From what the parts of a call promise to what the call does: outcomes handed on, cause by cause. Assumes nothing.
use Rattle.std.proofs.Common.{◌≡◌, ℕ, ◌<◌, ◌≤◌, true, List, [], ◌∷◌, Ok, Err, Result, sym, ap, ◌∙◌, subst, inl, inr, not-le_of_lt}
use Rattle.std.proofs.lemmas.Bool.{both_ways}
use Rattle.refusal.specs.declared.Refusal.{Refusal}
use Rattle.refusal.specs.declared.Refusal.TheVariants.{NotShown}
use Rattle.refusal.proofs.Causes.{ok_not_err, same_ok, carried}
use Rattle.algebra.specs.Showings.{Showing}
use Rattle.medium.specs.Meaning.{Meaning}
use Rattle.medium.specs.Write.{Written}
use Rattle.fitting.specs.declared.counts.Counts.{Counts}
use Rattle.kept.specs.Shows.{shown_of, Shows, Agree}
use Rattle.kept.specs.Code.{Code, Lawful, counts, Fitting}
use Rattle.kept.specs.Calls.{Finds, TooWorn, Put, Moves, Copies}
use Rattle.kept.proofs.Agree.{agree_sym}

-- the answer of a writing, handed on
pub handed : {A : Type 0} (v u w : Meaning) (f : ℕ) (xs : List ℕ) (a : A) (s : Result (Unit {0}) Refusal) (r : Result A Refusal)
    → u ≡ v → Put u f xs tt s w → ((k : Refusal) → s ≡ Err k → r ≡ Err k) → (s ≡ Ok tt → r ≡ Ok a) → Put v f xs a r w
handed v u w f xs a s r e p err ok =
    (subst (λ t. Written t f xs w) e p.0, carried _ _ _ _ s r ((NotShown, (Shows w f xs → ⊥)) ∷ []) (λ k q _. (err k q, tt)) ok p.1)

module _ (K : Code) where
  pub copies_done : (v w : Meaning) (from to : ℕ) (r : Result Counts Refusal) → from < v.frames → to < v.frames → v.unlocked to ≡ true
      → Moves K v from to r w → Copies K v from to r w
  copies_done v w from to r here there unlocked o =
      inr ((λ k. not-le_of_lt here k), inr ((λ k. not-le_of_lt there k), inr ((λ e. both_ways (v.unlocked to) e unlocked), o)))

  -- the fitting frame was written
  pub moves_done : (v u w : Meaning) (from to : ℕ) (xs : List ℕ) (s : Result Counts Refusal) (t : Result (Unit {0}) Refusal) (r : Result Counts Refusal) (a : Counts)
      → Finds K (shown_of v from) s xs → s ≡ Ok a → u ≡ v → Put u to xs tt t w → ((k : Refusal) → t ≡ Err k → r ≡ Err k) → (t ≡ Ok tt → r ≡ Ok a)
      → Moves K v from to r w
  moves_done v u w from to xs s t r a finds ok e p err fine =
      carried _ _ _ _ s r (TooWorn K (shown_of v from)) (λ k q _. absurd (ok_not_err s ok q))
      (λ f. (f.0, xs, f.1, handed v u w to xs (counts K (shown_of v from) xs) t r e p err (λ q. fine q ∙ ap Ok (same_ok s ok f.2)))) finds

  -- nothing was written, for what is shown is too worn
  pub moves_worn : (v w : Meaning) (from to : ℕ) (xs : List ℕ) (s r : Result Counts Refusal) {k : Refusal} → w ≡ v
      → Finds K (shown_of v from) s xs → s ≡ Err k → ((j : Refusal) → s ≡ Err j → r ≡ Err j) → Moves K v from to r w
  moves_worn v w from to xs s r same finds was err =
      carried _ _ _ _ s r (TooWorn K (shown_of v from)) (λ k q _. (err k q, same)) (λ p. absurd (ok_not_err s p.2 was)) finds

module _ (K : Code) (laws : Lawful K) where
  agree_fitting : (v w : Showing) → Agree K.m K.n v w → (rec xs : List ℕ) → Fitting K v rec xs → Fitting K w rec xs
  agree_fitting v w a rec xs p = record { frame = p.frame; fit = laws.agree_fits v w a xs p.fit }

  -- what is found in one showing is found in every showing that agrees with it
  pub agree_finds : (v w : Showing) (r : Result Counts Refusal) (xs : List ℕ) → Agree K.m K.n v w → Finds K v r xs → Finds K w r xs
  agree_finds v w r xs a o =
      let back : Agree K.m K.n w v = agree_sym K.m K.n laws.some_squares v w a in
      let g : K.gone v ≡ K.gone w = laws.agree_gone v w a in
      let d : K.doubtful v ≡ K.doubtful w = laws.agree_doubtful v w a in
      let same : counts K v xs ≡ counts K w xs = λ i. record { gone = g i; doubtful = d i; changed = laws.agree_changed v w a xs i } in
      elim o [
        | inl x ↦ inl (subst (λ k. K.c ≤ k) g x.0, x.1, x.2)
        | inr y ↦ inr (
          (λ h. y.0 (subst (λ k. K.c ≤ k) (sym g) h)),
          elim y.1 [
            | inl x ↦ inl (subst (λ k. K.m < k) d x.0, x.1, x.2)
            | inr z ↦ inr (
              (λ h. z.0 (subst (λ k. K.m < k) (sym d) h)),
              elim z.1 [
                | inl x ↦ inl ((λ rec ys p. x.0 rec ys (agree_fitting w v back rec ys p)), x.1, x.2)
                | inr t ↦ inr ((λ none. t.0 (λ rec ys p. none rec ys (agree_fitting v w a rec ys p))), (t.1.0, agree_fitting v w a t.1.0 xs t.1.1, t.1.2 ∙ ap Ok same))
              ],
            )
          ],
        )
      ]
