-- Frames and fits of known numbers by computed tests, and a bound on how much a fitting frame differs. Assumes nothing.
use mathlib.Core.Path.{◌≡◌, refl, sym}
use mathlib.Core.Bool.{Bool, true, false, cond, not, ◌&&◌, ◌||◌}
use mathlib.Core.List.{List}
use Prim.Native.Nat.{ℕ, zero, suc, ◌+◌, ◌*◌, ◌≤◌}
use native.Mathlib.Nat.{mul-add, mul-one, mul-zero}
use native.Mathlib.Omega.{arith}
use Rattle.std.proofs.lemmas.Bool.{true≢false}
use lib.Dec.{T, eqb, ltb, leb, ltb→lt, leb→le, eqb→eq}
use lib.ListN.{length, get_or}
use Rattle.laws.specs.Ops.{Ops}
use Rattle.laws.proofs.Tests.{all, at, both_parts}
use Rattle.algebra.specs.Frames.{IsFrame, check_sum}
use Rattle.algebra.specs.Showings.{Showing, count, differs, silent, gone_strips, doubtful_squares, changed_squares, Fits}
use Rattle.fitting.specs.Wrong.{total, changes, left_out}
use Rattle.algebra.proofs.Counting.{count_le}
use Rattle.fitting.proofs.Counting.{count_blocks}
use Rattle.fitting.proofs.Deciding.{silent_total}

-- every check sum is 0, and every symbol a code
abbrev pub balanced : Ops → ℕ → ℕ → ℕ → List ℕ → Bool
balanced F m n c xs = all m (λ h. all c (λ i. eqb (check_sum F m n xs h i) 0))

abbrev pub coded : Ops → List ℕ → Bool
coded F xs = all (length xs) (λ i. ltb (get_or xs i 0) F.order)

pub tested : (F : Ops) (m n c : ℕ) (xs : List ℕ) → length xs ≡ n * m → T (coded F xs) → T (balanced F m n c xs) → IsFrame F m n c xs
tested F m n c xs e t s = record {
  size = e;
  codes = λ i l. ltb→lt (get_or xs i 0) F.order (at (length xs) (λ i. ltb (get_or xs i 0) F.order) t i l);
  checks = λ h i lh li. eqb→eq (check_sum F m n xs h i) 0 (at c (λ i. eqb (check_sum F m n xs h i) 0) (at m (λ h. all c (λ i. eqb (check_sum F m n xs h i) 0)) s h lh) i li);
}

module _ (limit m n c : ℕ) (w : Showing) (xs : List ℕ) where
  -- how a naming of wrong strips is tested
  abbrev pub fitting : (ℕ → Bool) → Bool
  fitting wrong =
      all n (λ j. not (wrong j) || not (w.gone j))
      && (ltb (2 * count n wrong + gone_strips n w) c
      && (leb (2 * count (n * m) (silent m w wrong xs) + doubtful_squares m n w) m
      && leb (count (n * m) (silent m w wrong xs)) limit))

  pub fits : (wrong : ℕ → Bool) → T (fitting wrong) → Fits limit m n c w xs
  fits wrong t =
      let a = both_parts (all n (λ j. not (wrong j) || not (w.gone j))) _ t in
      let b = both_parts (ltb (2 * count n wrong + gone_strips n w) c) _ a.1 in
      let d = both_parts (leb (2 * count (n * m) (silent m w wrong xs) + doubtful_squares m n w) m) _ b.1 in
      record {
        wrong = wrong;
        not_gone = λ j l e. there (wrong j) (w.gone j) e (at n (λ j. not (wrong j) || not (w.gone j)) a.0 j l);
        strips = ltb→lt _ c b.0;
        squares = leb→le _ m d.0;
        few = leb→le _ limit d.1;
      }
    where
      there : (x g : Bool) → x ≡ true → T (not x || not g) → g ≡ false
      there true false e t = refl
      there true true e t = absurd t
      there false g e t = absurd (true≢false (sym e))

  -- beyond the silent squares only wrong strips differ
  differs_most : (wrong : ℕ → Bool) (d : ℕ → ℕ) (k : ℕ) → ((j : ℕ) → d j ≤ m) → total k d ≤ total k (left_out d wrong) + m * count k wrong
  differs_most wrong d zero h = omega arith
  differs_most wrong d (suc k) h =
      let ih = differs_most wrong d k h in
      let one : d k ≤ left_out d wrong k + m * cond (wrong k) 1 0 = elim (wrong k) as (λ b. d k ≤ cond b 0 (d k) + m * cond b 1 0) [ true ↦ omega (arith, h k, mul-one m) | false ↦ omega (arith, mul-zero m) ] in
      omega (arith, mul-add m (count k wrong) (cond (wrong k) 1 0))

  pub changed_most : (f : Fits limit m n c w xs) → changed_squares m n w xs ≤ count (n * m) (silent m w f.wrong xs) + m * count n f.wrong
  changed_most f =
      omega (arith, count_blocks (differs m w xs) m n, silent_total m n w xs f.wrong, differs_most f.wrong (changes m w xs) n (λ j. count_le (λ κ. differs m w xs (j * m + κ)) m))
