-- What is found in the notes of a look over a frame is found in the frame: the notes agree with what it shows. Assumes nothing.
use Rattle.std.proofs.Common.{◌≡◌, ℕ, ◌*◌, ◌<◌, List, length, Ok, Result, ap, ◌∙◌, subst, inl, inr, ⊎_elim}
use Rattle.refusal.specs.declared.Refusal.{Refusal}
use Rattle.refusal.specs.Outcome.{Outcome}
use Rattle.laws.specs.Ops.{Ops, Laws}
use Rattle.geometry.specs.Rule.{Rule}
use Rattle.geometry.specs.declared.Geometry.{Geometry}
use Rattle.medium.specs.Meaning.{Meaning}
use Rattle.fitting.specs.declared.counts.Counts.{Counts}
use Rattle.fitting.specs.Marks.{shown_by}
use Rattle.corrector.specs.Corrects.{no_correct, Corrected}
use Rattle.attempts.specs.Shown.{shows}
use Rattle.kept.specs.Shows.{shown_of, Agree}
use Rattle.kept.specs.Code.{Lawful}
use Rattle.kept.specs.Calls.{Suits, Finds}
use Rattle.kept.proofs.Lawful.{lawful}
use Rattle.kept.proofs.Looks.{agree_noted}
use Rattle.kept.proofs.Steps.{agree_finds}
use Rattle.reel.specs.Sight.{Sighted}
use Rattle.reel.specs.Calls.{code_on, Ready}

module _ (F : Ops) (g : Geometry) where
  pub field_rule : g.order ≡ F.order → Rule F.order g.squares g.strips g.checks
  field_rule e = (g.rule.0, g.rule.1, g.rule.2, subst (λ q. g.strips * g.squares < q) e g.rule.3)

  -- the code of a reel that is ready keeps what a reel takes for granted
  pub code_lawful : Laws F → g.order ≡ F.order → Lawful (code_on F g)
  code_lawful L e = lawful F L g.squares g.strips g.checks (field_rule e)

  abbrev Corrects : List ℕ → List ℕ → List ℕ → List ℕ → Result Counts Refusal → List ℕ → Type 0
  Corrects codes strips squares frame r frame' =
      let w = shows F.order codes strips squares in
      Outcome (no_correct F g.order g.squares g.strips g.checks w codes strips squares frame) (frame' ≡ frame) (Corrected F g.squares g.strips g.checks w frame' r) r

  -- the corrector's answer, where the field and the lengths are right
  corrected : (codes strips squares frame frame' : List ℕ) (r : Result Counts Refusal) → g.order ≡ F.order
      → length codes ≡ g.strips * g.squares → length strips ≡ g.strips → length squares ≡ g.strips * g.squares → length frame ≡ g.strips * g.squares
      → Corrects codes strips squares frame r frame' → Finds (code_on F g) (shown_by codes strips squares) r frame'
  corrected codes strips squares frame frame' r order lc ls lq lf (inl x) = absurd (x.0 order)
  corrected codes strips squares frame frame' r order lc ls lq lf (inr (_, inl x)) =
      absurd (⊎_elim (λ n. n lc) (⊎_elim (λ n. n ls) (⊎_elim (λ n. n lq) (λ n. n lf))) x.0)
  corrected codes strips squares frame frame' r order lc ls lq lf (inr (_, inr (_, inl x))) = inl (x.0, x.1, tt)
  corrected codes strips squares frame frame' r order lc ls lq lf (inr (_, inr (_, inr (a, inl x)))) = inr (a, inl (x.0, x.1, tt))
  corrected codes strips squares frame frame' r order lc ls lq lf (inr (_, inr (_, inr (a, inr (b, inl x))))) =
      inr (a, inr (b, inl ((λ rec xs p. x.0 rec xs p.frame p.fit), x.1, tt)))
  corrected codes strips squares frame frame' r order lc ls lq lf (inr (_, inr (_, inr (a, inr (b, inr (d, y)))))) =
      inr (a, inr (b, inr ((λ none. d (λ rec xs fr fit. none rec xs (record { frame = fr; fit = fit }))), (y.symbols, record { frame = y.frame; fit = y.fits }, y.value ∙ ap Ok (λ i. record { gone = y.counted.gone i; doubtful = y.counted.doubtful i; changed = y.counted.changed i })))))

  pub found : Laws F → (v : Meaning) (f : ℕ) (codes strips squares frame frame' : List ℕ) (r : Result Counts Refusal) → Ready F g v
      → length codes ≡ g.strips * g.squares → length strips ≡ g.strips → length squares ≡ g.strips * g.squares → length frame ≡ g.strips * g.squares
      → Sighted v f v.squares codes strips squares (v.strips * v.squares) → Corrects codes strips squares frame r frame' → Finds (code_on F g) (shown_of v f) r frame'
  found L v f codes strips squares frame frame' r ready lc ls lq lf seen done =
      let suits : Suits (code_on F g) v = ready.suits in
      let each = subst (λ m. Sighted v f m codes strips squares (v.strips * m)) suits.squares seen in
      let noted = subst (λ n. Sighted v f g.squares codes strips squares (n * g.squares)) suits.strips each in
      let agree : Agree g.squares g.strips (shown_by codes strips squares) (shown_of v f) =
      agree_noted v f g.squares g.strips (shown_by codes strips squares) g.rule.0 suits.squares noted in
      agree_finds (code_on F g) (code_lawful L ready.order) (shown_by codes strips squares) (shown_of v f) r frame' agree
      (corrected codes strips squares frame frame' r ready.order lc ls lq lf done)
