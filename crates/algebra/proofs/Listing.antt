-- The numbers that pass a test, as a list. Assumes nothing.
use Rattle.std.proofs.Common.{◌≡◌, ℕ, zero, suc, ◌+◌, ◌<◌, Bool, true, false, cond, List, [], ◌∷◌, length, All, Contains, sym, refl, ap, ◌∙◌, arith}
use native.Mathlib.Decide.{ℕ_discrete}
use Rattle.std.proofs.lemmas.List.Elements.{All-nil, All-cons, All-weaker}
use Rattle.algebra.specs.Showings.{count}

-- the numbers below k that pass
unfoldable pub listed : ℕ → (ℕ → Bool) → List ℕ
listed zero p = []
listed (suc k) p = cond (p k) (k ∷ listed k p) (listed k p)

pub length_listed : (k : ℕ) (p : ℕ → Bool) → length (listed k p) ≡ count k p
unfolding listed
length_listed zero p = refl
length_listed (suc k) p = let ih = length_listed k p in
    elim (p k) as (λ b. length (cond b (k ∷ listed k p) (listed k p)) ≡ count k p + cond b 1 0) [ true ↦ omega arith | false ↦ omega arith ]

pub in_listed : (k : ℕ) (p : ℕ → Bool) (i : ℕ) → i < k → p i ≡ true → Contains (listed k p) i
unfolding listed
in_listed zero p i l e = absurd (omega arith)
in_listed (suc k) p i l e = elim (ℕ_discrete i k) [
  | yes s ↦ rw (ap p (sym s) ∙ e) (zero, omega arith, sym s)
  | no d ↦ widen (p k) (in_listed k p i (omega arith) e)
]
  where
    widen : (b : Bool) → Contains (listed k p) i → Contains (cond b (k ∷ listed k p) (listed k p)) i
    widen true h = (suc h.0, omega (arith, h.1), h.2)
    widen false h = h

pub from_listed : (k : ℕ) (p : ℕ → Bool) → All (λ i. i < k) (listed k p)
unfolding listed
from_listed zero p = All-nil (λ i. i < zero)
from_listed (suc k) p =
    let below = All-weaker (λ i. i < k) (λ i. i < suc k) (λ i l. omega arith) (listed k p) (from_listed k p) in
    elim (p k) as (λ b. All (λ i. i < suc k) (cond b (k ∷ listed k p) (listed k p))) [ true ↦ All-cons (λ i. i < suc k) k (listed k p) (omega arith) below | false ↦ below ]
