-- The places of those that pass. Assumes nothing.
use Rattle.std.proofs.Common.{◌≡◌, ℕ, zero, suc, ◌<◌, Bool, true, sym, inl, inr, arith}
use native.Mathlib.Decide.{ℕ_discrete}
use Rattle.std.proofs.lemmas.Bool.{cases_Bool}
use Rattle.algebra.specs.Showings.{count}
pub use Rattle.algebra.proofs.Counting.{count_true, count_false, count_room}

module _ (p : ℕ → Bool) where
  -- the place of each rank
  pub select : (n t : ℕ) → t < count n p → (j : ℕ) × (j < n) × (p j ≡ true) × (count j p ≡ t)
  select zero t l = absurd (omega arith)
  select (suc n) t l = elim (ℕ_discrete t (count n p)) [
    | yes q ↦ elim (cases_Bool (p n)) [
      | inl e ↦ (n, omega arith, e, sym q)
      | inr e ↦ absurd (omega (arith, count_false p n e))
    ]
    | no d ↦ (let s = select n t (elim (cases_Bool (p n)) [ inl e ↦ omega (arith, count_true p n e) | inr e ↦ omega (arith, count_false p n e) ]) in (s.0, omega arith, s.2, s.3))
  ]
