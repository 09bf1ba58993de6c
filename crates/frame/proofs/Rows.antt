-- A row that is put into a table of strips, strip by strip. Assumes nothing.
use Rattle.std.proofs.Common.{◌≡◌, ℕ, ◌+◌, ◌*◌, ◌<◌, List, length, get_or, set, sym, ap, ◌∙◌, inl, inr, arith, get_or-set_other, get_or-set_same}
use Rattle.std.proofs.lemmas.Bool.{cases_eq}
use Rattle.frame.specs.Tables.{Scattered}
use Rattle.std.proofs.lemmas.Nat.{same_from_place}

pub scatter_more : (m h j : ℕ) (row columns xs : List ℕ) (v : ℕ) → h < m → j * m + h < length xs → v ≡ get_or row j 0 → Scattered m h j row columns xs
    → Scattered m h (j + 1) row columns (set xs (j * m + h) v)
scatter_more m h j row columns xs v lh l e s = record {
  there = λ i k. elim (cases_eq i j) [
    | inl q ↦ ap (λ t. get_or (set xs (j * m + h) v) (t * m + h) 0) q ∙ get_or-set_same xs (j * m + h) v 0 l ∙ e ∙ ap (λ t. get_or row t 0) (sym q)
    | inr n ↦ get_or-set_other xs (j * m + h) (i * m + h) v 0 (λ q. n (same_from_place i h j h m lh lh q).0) ∙ s.there i (omega arith)
  ];
  others = λ p n. get_or-set_other xs (j * m + h) p v 0 (n j (omega arith)) ∙ s.others p (λ i k. n i (omega arith));
}
