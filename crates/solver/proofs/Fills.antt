-- A list that is filled from the front, with 0 behind. Assumes nothing.
use Rattle.std.proofs.Common.{◌≡◌, ℕ, zero, suc, ◌+◌, ◌-◌, ◌<◌, List, ◌++◌, length, get_or, drop, replicate, refl, ap, ◌∙◌, arith, get_or-drop, get_or-append-add}
use lib.ListN.{get_or-append}
use Rattle.solver.specs.Sums.{Filled}

pub get_or_zeros : (n u : ℕ) → ◌≡◌ {A = ℕ} (get_or (replicate n 0) u 0) 0
get_or_zeros zero u = refl
get_or_zeros (suc n) zero = refl
get_or_zeros (suc n) (suc u) = get_or_zeros n u

pub fill_front : (f : ℕ → ℕ) (n k : ℕ) (xs : List ℕ) → length xs ≡ n → ((u : ℕ) → u < n → get_or xs u 0 ≡ f u) → Filled f n (xs ++ drop n (replicate k 0))
fill_front f n k xs l h = record {
  first = λ u m. get_or-append xs (drop n (replicate k 0)) 0 u (omega arith) ∙ h u m;
  others = λ u m. ap (λ i. get_or (xs ++ drop n (replicate k 0)) i 0) (let e : u ≡ length xs + (u - n) = omega arith in e)
      ∙ get_or-append-add xs (drop n (replicate k 0)) (u - n) 0 ∙ get_or-drop n (replicate k 0) (u - n) 0 ∙ get_or_zeros k (n + (u - n));
}
