-- A list that is written from the front, place by place: what stands before and after the place. Assumes nothing.
use Rattle.std.proofs.Common.{◌≡◌, ℕ, ◌+◌, ◌<◌, ◌≤◌, List, length, get_or, set, sym, ap, ◌∙◌, inl, inr, arith, get_or-set_other, get_or-set_same}
use Rattle.std.proofs.lemmas.Bool.{cases_eq}

pub set_before : (f : ℕ → ℕ) (xs : List ℕ) (i v : ℕ) → i < length xs → v ≡ f i → ((k : ℕ) → k < i → get_or xs k 0 ≡ f k)
    → (k : ℕ) → k < i + 1 → get_or (set xs i v) k 0 ≡ f k
set_before f xs i v l e h k m = elim (cases_eq k i) [
  | inl q ↦ ap (λ j. get_or (set xs i v) j 0) q ∙ get_or-set_same xs i v 0 l ∙ e ∙ ap f (sym q)
  | inr n ↦ get_or-set_other xs i k v 0 n ∙ h k (omega arith)
]

pub set_after : (f : ℕ → ℕ) (xs : List ℕ) (i v : ℕ) → ((k : ℕ) → i ≤ k → get_or xs k 0 ≡ f k) → (k : ℕ) → i + 1 ≤ k → get_or (set xs i v) k 0 ≡ f k
set_after f xs i v h k m = get_or-set_other xs i k v 0 (λ q. omega arith) ∙ h k (omega arith)
