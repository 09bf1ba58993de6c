-- The number that more digits write is no smaller, by induction on how many more. Assumes nothing.
use Rattle.std.proofs.Common.{◌≡◌, ℕ, zero, suc, ◌+◌, ◌-◌, ◌*◌, ◌≤◌, List, get_or, ap, subst, inl, inr, add-one, arith}
use Rattle.std.proofs.lemmas.Bool.{cases_lt}
use Rattle.cardtext.specs.Numerals.{digits_value}

pub value_more : (xs : List ℕ) (k : ℕ) → digits_value xs (k + 1) ≡ digits_value xs k * 10 + (get_or xs k 0 - 48)
value_more xs k = ap (digits_value xs) (add-one k)

pub value_grows : (xs : List ℕ) (k n : ℕ) → k ≤ n → digits_value xs k ≤ digits_value xs n
value_grows xs k zero h = subst (λ j. digits_value xs j ≤ 0) (let e : 0 ≡ k = omega arith in e) (omega arith)
value_grows xs k (suc n) h = elim (cases_lt n k) [
  | inl l ↦ subst (λ j. digits_value xs j ≤ digits_value xs (suc n)) (let e : suc n ≡ k = omega arith in e) (omega arith)
  | inr l ↦ let g = value_grows xs k n l in omega arith
]
