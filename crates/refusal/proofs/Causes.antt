-- How an outcome is used. Assumes nothing.
use Rattle.std.proofs.Common.{◌≡◌, ◌⊎◌, List, [], ◌∷◌, Ok, Err, Result, inl, inr}
use Rattle.refusal.specs.declared.Refusal.{Refusal}
use Rattle.refusal.specs.Outcome.{Cause, Outcome}

-- no cause holds
abbrev pub None : List Cause → Type 0
None [] = Unit {0}
None (c ∷ cs) = (c.1 → ⊥) × None cs

module _ {A : Type 0} (L P : Type 0) (r : Result A Refusal) where
  pub granted : (cs : List Cause) → None cs → Outcome cs L P r → P
  granted [] n o = o
  granted (c ∷ cs) n (inl x) = absurd (n.0 x.0)
  granted (c ∷ cs) n (inr x) = granted cs n.1 x.1

  -- either refused, or granted with no cause
  pub settled : (cs : List Cause) → Outcome cs L P r → ((k : Refusal) × (r ≡ Err k) × L) ⊎ (None cs × P)
  settled [] o = inr (tt, o)
  settled (c ∷ cs) (inl x) = inl (c.0, x.1, x.2)
  settled (c ∷ cs) (inr x) = elim (settled cs x.1) [ inl y ↦ inl y | inr y ↦ inr ((x.0, y.0), y.1) ]

pub ok_not_err : {A : Type 0} (r : Result A Refusal) {a : A} {k : Refusal} → r ≡ Ok a → r ≡ Err k → ⊥
ok_not_err r p q = cc

pub same_ok : {A : Type 0} (r : Result A Refusal) {a b : A} → r ≡ Ok a → r ≡ Ok b → a ≡ b
same_ok r p q = cc

pub same_err : {A : Type 0} (r : Result A Refusal) {j k : Refusal} → r ≡ Err j → r ≡ Err k → j ≡ k
same_err r p q = cc

-- an outcome handed on by a caller
pub carried : {A B : Type 0} (L P M Q : Type 0) (r : Result A Refusal) (s : Result B Refusal) (cs : List Cause)
    → ((k : Refusal) → r ≡ Err k → L → (s ≡ Err k) × M) → (P → Q) → Outcome cs L P r → Outcome cs M Q s
carried L P M Q r s [] err ok o = ok o
carried L P M Q r s (c ∷ cs) err ok (inl x) = inl (x.0, (err c.0 x.1 x.2).0, (err c.0 x.1 x.2).1)
carried L P M Q r s (c ∷ cs) err ok (inr x) = inr (x.0, carried L P M Q r s cs err ok x.1)
