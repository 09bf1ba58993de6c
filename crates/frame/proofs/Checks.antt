-- The check strips: their power sums row by row, and that every check sum is then 0. Assumes nothing.
use Rattle.std.proofs.Common.{◌≡◌, ℕ, ◌+◌, ◌*◌, ◌<◌, ◌≢◌, List, length, get_or, sym, ap, ◌∙◌, subst, inl, inr, arith}
use Prim.Native.Nat.{Fin}
use lib.Arith.{digits_mod}
use Rattle.std.proofs.lemmas.Bool.{cases_eq}
use Rattle.refusal.specs.Codes.{Below}
use Rattle.laws.specs.Ops.{Ops, power}
use Rattle.solver.specs.Sums.{Solved}
use Rattle.solver.proofs.Parts.{sum_cong}
use Rattle.frame.specs.Tables.{row_sum, Scattered, CheckColumns}
use Rattle.frame.proofs.Strips.{by_place}

other_place : (m t j h h' : ℕ) → h < m → h' < m → h' ≢ h → t * m + h' ≢ j * m + h
other_place m t j h h' l l' n e = n (sym (digits_mod t l') ∙ ap (λ p. Prim.Native.Nat.◌%◌ p m) e ∙ digits_mod j l)

pub check_columns_more : (F : Ops) (m h : ℕ) (points table columns values weights columns' : List ℕ) → h < m
    → ((i : ℕ) → i < length points → get_or values i 0 ≡ F.neg (get_or table (h * length points + i) 0))
    → length weights ≡ length points → Solved F points values weights → Scattered m h (length points) weights columns columns'
    → CheckColumns F m h points table columns → CheckColumns F m (h + 1) points table columns'
check_columns_more F m h points table columns values weights columns' lh neg size solved put done = record {
  below = λ t k lt lk. elim (cases_eq k h) [
    | inl q ↦ subst (λ (z : ℕ). z < F.order) (sym (ap (λ z. get_or columns' (t * m + z) 0) q ∙ put.there t lt)) (solved.below t (omega arith))
    | inr d ↦ subst (λ (z : ℕ). z < F.order) (sym (kept t k (omega arith) d)) (done.below t k lt (omega arith))
  ];
  sums = λ k i lk li. elim (cases_eq k h) [
    | inl q ↦ ap (λ z. row_sum F m points columns' z i) q
        ∙ sum_cong F (length points) (λ t. F.mul (get_or columns' (t * m + h) 0) (power F (get_or points t 0) i)) (λ t. F.mul (get_or weights t 0) (power F (get_or points t 0) i))
        (λ t l. ap (λ x. F.mul x (power F (get_or points t 0) i)) (put.there t l))
        ∙ solved.sums i li ∙ neg i li ∙ ap (λ z. F.neg (get_or table (z * length points + i) 0)) (sym q)
    | inr d ↦ sum_cong F (length points) (λ t. F.mul (get_or columns' (t * m + k) 0) (power F (get_or points t 0) i)) (λ t. F.mul (get_or columns (t * m + k) 0) (power F (get_or points t 0) i))
        (λ t l. ap (λ x. F.mul x (power F (get_or points t 0) i)) (kept t k (omega arith) d))
        ∙ done.sums k i (omega arith) li
  ];
}
  where
    kept : (t k : ℕ) → k < m → k ≢ h → get_or columns' (t * m + k) 0 ≡ get_or columns (t * m + k) 0
    kept t k l n = put.others (t * m + k) (λ j _. other_place m t j h k lh l n)

pub check_columns_below : (F : Ops) (m : ℕ) (points table columns : List ℕ) → length columns ≡ length points * m → CheckColumns F m m points table columns → Below F.order columns
check_columns_below F m points table columns e done p l = by_place m (length points) p (omega arith) (λ (z : ℕ). get_or columns z 0 < F.order) (λ t h lt lh. done.below t h lt lh)
