-- What a reel that is ready leads to: a granted test, and calls that do what they say. Assumes nothing.
use Rattle.std.proofs.Common.{◌≡◌, ℕ, ◌*◌, ◌<◌, ◌≤◌, Ok, Result, sym, ◌∙◌, subst, inr}
use Rattle.refusal.specs.declared.Refusal.{Refusal}
use Rattle.laws.specs.Ops.{Ops}
use Rattle.geometry.specs.Rule.{Rule}
use Rattle.geometry.specs.declared.Geometry.{Geometry}
use Rattle.medium.specs.Meaning.{Meaning}
use Rattle.kept.specs.CodeOf.{code_of}
use Rattle.kept.specs.Calls.{Suits, Loaded}
use Rattle.reel.specs.Calls.{code_on, Ready}
use Rattle.reel.specs.Loading.{Loads, LaidOut}

module _ (F : Ops) (g : Geometry) (v : Meaning) {A : Type 0} (left does : Type 0) (r : Result A Refusal) where
  pub ready_does : Ready F g v → does → Loaded g.order (code_on F g) v left does r
  ready_does ready d = inr ((λ n. n ready.order), inr ((λ n. n ready.suits), d))

module _ (F : Ops) (v : Meaning) (q m n c : ℕ) (g : Geometry) (laid : LaidOut q m n c g) where
  rule : Rule q m n c
  rule = (
    subst (λ t. 1 ≤ t) laid.squares g.rule.0,
    subst (λ t. 1 ≤ t) laid.checks g.rule.1,
    subst (λ t. t < n) laid.checks (subst (λ t. g.checks < t) laid.strips g.rule.2),
    subst (λ t. n * m < t) laid.order (subst (λ t. t * m < g.order) laid.strips (subst (λ t. g.strips * t < g.order) laid.squares g.rule.3)),
  )

  pub tested : (r : Result Geometry Refusal) → r ≡ Ok g → Ready F g v → Loads F v q m n c r
  tested r e ready =
      let suits : Suits (code_of F m n c) v = record { strips = ready.suits.strips ∙ laid.strips; squares = ready.suits.squares ∙ laid.squares; levels = ready.suits.levels } in
      inr ((λ no. no rule), inr ((λ ne. ne (sym laid.order ∙ ready.order)), inr ((λ no. no suits), (g, e, laid, ready))))
