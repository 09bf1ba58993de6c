-- Looking over a frame square by square: each look is noted down, and no note undoes one before it. Assumes nothing.
use Rattle.std.proofs.Common.{◌≡◌, ℕ, ◌+◌, ◌*◌, ◌/◌, ◌%◌, ◌<◌, ◌≤◌, Bool, true, false, cond, not, eqb, ◌≢◌, List, length, get_or, set, replicate, take, Ok, Result, sym, refl, ap, ◌∙◌, subst, ⊎_elim, not-le_of_lt, arith, div-lt_iff_lt-mul, get_or-set_other, get_or-set_same, below_more}
use Rattle.std.proofs.lemmas.Bool.{cases_eq, both_ways, false_from_ne_true}
use Rattle.std.proofs.lemmas.List.{get_or-take}
use Rattle.refusal.specs.declared.Refusal.{Refusal}
use Rattle.refusal.specs.Codes.{Below}
use Rattle.refusal.proofs.Causes.{granted}
use Rattle.solver.proofs.Fills.{get_or_zeros}
use Rattle.medium.specs.declared.medium.Look.{Look}
use Rattle.medium.specs.declared.medium.Look.TheVariants.{Gone, Doubtful, Clear}
use Rattle.medium.specs.Meaning.{Meaning, Square, doubtful, clear, look_on, look_at}
use Rattle.medium.specs.Write.{Written, Writes, no_write}
use Rattle.fitting.specs.Marks.{marked}
use Rattle.kept.specs.Shows.{Noted}
use Rattle.kept.proofs.Looks.{look_clear}
use Rattle.reel.specs.Sight.{Sighted, strips_with, squares_with, codes_with}

-- what stands after the first p squares: they are noted down, only gone strips are marked, and no square from p on is
pub record Noting (w : Meaning) (f m : ℕ) (codes strips squares : List ℕ) (p : ℕ) : Type 0 where
  pub sighted : Sighted w f m codes strips squares p
  pub gone : (s : ℕ) → marked strips s ≡ true → w.gone f s ≡ true
  pub unmarked : (k : ℕ) → p ≤ k → marked squares k ≡ false

gone_look : (g : Bool) (q : Square) → cond g Gone (look_on q) ≡ Gone → g ≡ true
gone_look true q e = refl
gone_look false doubtful e = cc
gone_look false (clear c) e = cc

gone_noted : (g : Bool) (q : Square) (b : Bool) (x : ℕ) → g ≡ true → Noted (cond g Gone (look_on q)) true b x
gone_noted true q b x e = refl
gone_noted false q b x e = absurd (both_ways false refl e)

doubtful_there : (g : Bool) (q : Square) → cond g Gone (look_on q) ≡ Doubtful → g ≡ false
doubtful_there true q e = cc
doubtful_there false q e = refl

same_note : (look : Look) {g g' d d' : Bool} {y y' : ℕ} → g' ≡ g → d' ≡ d → y' ≡ y → Noted look g d y → Noted look g' d' y'
same_note look eg ed ey n = rw (eg, ed, ey) n

module _ (w : Meaning) (f m p : ℕ) (codes strips squares : List ℕ) where
  pub noting_more : (look : Look) → look ≡ look_at w f (p / m) (p % m) → p < length codes → p / m < length strips → p < length squares
      → Noting w f m codes strips squares p → Noting w f m (codes_with look p codes) (strips_with look (p / m) strips) (squares_with look p squares) (p + 1)
  noting_more Gone is hc hs hq n = record {
    sighted = below_more _ _
        (λ k h. ⊎_elim
        (λ e. same_note (look_at w f (k / m) (k % m)) (mark e) refl refl
        (gone_noted (w.gone f (k / m)) (w.square f (k / m) (k % m)) (marked squares k) (get_or codes k 0) (ap (w.gone f) e ∙ gone)))
        (λ ne. same_note (look_at w f (k / m) (k % m)) (other (k / m) ne) refl refl (n.sighted k h)) (cases_eq (k / m) (p / m)))
        (same_note (look_at w f (p / m) (p % m)) (mark refl) refl refl
        (gone_noted (w.gone f (p / m)) (w.square f (p / m) (p % m)) (marked squares p) (get_or codes p 0) gone));
    gone = λ s h. ⊎_elim (λ e. ap (w.gone f) e ∙ gone) (λ ne. n.gone s (sym (other s ne) ∙ h)) (cases_eq s (p / m));
    unmarked = λ k h. n.unmarked k (omega arith);
  }
    where
      gone : w.gone f (p / m) ≡ true
      gone = gone_look (w.gone f (p / m)) (w.square f (p / m) (p % m)) (sym is)

      mark : {s : ℕ} → s ≡ p / m → marked (set strips (p / m) 1) s ≡ true
      mark {s} e = ap (λ t. marked (set strips (p / m) 1) t) e ∙ ap (λ t. not (eqb t 0)) (get_or-set_same strips (p / m) 1 0 hs)

      other : (s : ℕ) → s ≢ p / m → marked (set strips (p / m) 1) s ≡ marked strips s
      other s ne = ap (λ t. not (eqb t 0)) (get_or-set_other strips (p / m) s 1 0 ne)
  noting_more Doubtful is hc hs hq n = record {
    sighted = below_more _ _
        (λ k h. same_note (look_at w f (k / m) (k % m)) refl (other k (omega arith)) refl (n.sighted k h))
        (subst (λ t. Noted t (marked strips (p / m)) (marked (set squares p 1) p) (get_or codes p 0)) is (there, ap (λ t. not (eqb t 0)) (get_or-set_same squares p 1 0 hq)));
    gone = n.gone;
    unmarked = λ k h. other k (omega arith) ∙ n.unmarked k (omega arith);
  }
    where
      other : (k : ℕ) → k ≢ p → marked (set squares p 1) k ≡ marked squares k
      other k ne = ap (λ t. not (eqb t 0)) (get_or-set_other squares p k 1 0 ne)

      there : marked strips (p / m) ≡ false
      there = false_from_ne_true (marked strips (p / m))
          (λ h. both_ways (w.gone f (p / m)) (doubtful_there (w.gone f (p / m)) (w.square f (p / m) (p % m)) (sym is)) (n.gone (p / m) h))
  noting_more (Clear c) is hc hs hq n = record {
    sighted = below_more _ _
        (λ k h. same_note (look_at w f (k / m) (k % m)) refl refl (get_or-set_other codes p k c 0 (omega arith)) (n.sighted k h))
        (subst (λ t. Noted t (marked strips (p / m)) (marked squares p) (get_or (set codes p c) p 0)) is (there, n.unmarked p (omega arith), get_or-set_same codes p c 0 hc));
    gone = n.gone;
    unmarked = λ k h. n.unmarked k (omega arith);
  }
    where
      there : marked strips (p / m) ≡ false
      there = false_from_ne_true (marked strips (p / m))
          (λ h. both_ways (w.gone f (p / m)) (look_clear (w.gone f (p / m)) (w.square f (p / m) (p % m)) c (sym is)).0 (n.gone (p / m) h))

-- nothing is noted yet
pub noting_none : (w : Meaning) (f m a b : ℕ) (codes : List ℕ) → Noting w f m codes (replicate a 0) (replicate b 0) 0
noting_none w f m a b codes = record {
  sighted = λ k h. absurd (omega arith);
  gone = λ s h. absurd (both_ways (marked (replicate a 0) s) (ap (λ t. not (eqb t 0)) (get_or_zeros a s)) h);
  unmarked = λ k h. ap (λ t. not (eqb t 0)) (get_or_zeros b k);
}

-- n strips of m squares, cut out of the notes
pub sighted_cut : (w : Meaning) (f m n : ℕ) (codes strips squares : List ℕ) → 1 ≤ m → Sighted w f m codes strips squares (n * m)
    → Sighted w f m (take (n * m) codes) (take n strips) (take (n * m) squares) (n * m)
sighted_cut w f m n codes strips squares some seen p h =
    same_note (look_at w f (p / m) (p % m))
    (ap (λ t. not (eqb t 0)) (get_or-take n strips (p / m) 0 ((div-lt_iff_lt-mul some).1 h)))
    (ap (λ t. not (eqb t 0)) (get_or-take (n * m) squares p 0 h)) (get_or-take (n * m) codes p 0 h) (seen p h)

-- a writing that nothing stands against
pub wrote : (v w : Meaning) (f : ℕ) (xs : List ℕ) (r : Result (Unit {0}) Refusal) → f < v.frames → length xs ≡ v.strips * v.squares → Below v.levels xs
    → v.unlocked f ≡ true → Writes v f xs r w → (r ≡ Ok tt) × Written v f xs w
wrote v w f xs r there long below unlocked o =
    granted _ _ r (no_write v f xs) ((λ k. not-le_of_lt there k), ((λ ne. ne long), ((λ ne. ne below), ((λ e. both_ways (v.unlocked f) e unlocked), tt)))) o
