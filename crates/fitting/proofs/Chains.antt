-- What a chain counts over a list or a range, counted over the indices. Assumes nothing.
use Rattle.std.proofs.Common.{◌≡◌, ℕ, zero, suc, ◌+◌, ◌-◌, Bool, cond, List, [], ◌∷◌, length, get_or, count_by, refl, sym, ap, ◌∙◌, zero-add, arith}
use Rattle.std.specs.List.{range_with_len}
use Rattle.std.specs.Fn.{CalledAt}
use Rattle.std.specs.Iterator.{Drains}
use Rattle.std.specs.Iterator.Adapters.{filter_source, filter_callee, filter_steps}
use Rattle.std.specs.declared.iter.Filter.{Filter}
use Rattle.std.specs.declared.ops.Range.{Range}
use Rattle.std.proofs.iter.Yields.{nat_range_steps}
use Rattle.std.proofs.lemmas.Iterator.{YieldsList-from_range}
use Rattle.std.proofs.lemmas.Iterator.Consumers.{YieldsList-from_filter, count_from_yields_List}
use Rattle.std.proofs.lemmas.List.Sums.{sum_by-cons, length-filter}
use Rattle.std.proofs.lemmas.List.FromFn.{length-range_with_len, get_or-range_with_len}
use denote.Ref.{Bor}
use denote.Param.Members.{Mut}
use Rattle.algebra.specs.Showings.{count}
use Rattle.algebra.proofs.Counting.{count_cong}

count_first : (t : ℕ → Bool) (n : ℕ) → count (suc n) t ≡ cond (t 0) 1 0 + count n (λ i. t (suc i))
count_first t zero = omega arith
count_first t (suc n) = omega (arith, count_first t n)

pub count_by-count : {X : Type 0} (p : X → Bool) (d : X) (xs : List X) → count_by p xs ≡ count (length xs) (λ i. p (get_or xs i d))
count_by-count p d [] = refl
count_by-count p d (x ∷ xs) = sum_by-cons (λ y. cond (p y) 1 0) x xs ∙ ap (λ k. cond (p x) 1 0 + k) (count_by-count p d xs) ∙ sym (count_first (λ i. p (get_or (x ∷ xs) i d)) (length xs))

count_by-range : (p : ℕ → Bool) (a n : ℕ) → count_by p (range_with_len a n) ≡ count n (λ i. p (a + i))
count_by-range p a n =
    count_by-count p 0 (range_with_len a n)
    ∙ ap (λ k. count k (λ i. p (get_or (range_with_len a n) i 0))) (length-range_with_len a n)
    ∙ count_cong n (λ i. p (get_or (range_with_len a n) i 0)) (λ i. p (a + i)) (λ i l. ap p (get_or-range_with_len a n i 0 l))

-- `(a..b).filter(p).count()`
module _ {F : Type 0} (g : Mut F (Bor ℕ × Unit {0}) Bool) {f : F} (s : Filter (Range ℕ) F) (p : ℕ → Bool) (r : ℕ)
    (ran : (xs : List ℕ) × Drains (filter_steps nat_range_steps g) s xs × (r ≡ length xs))
    (callee : filter_callee s ≡ f) (calls : (x : ℕ) (b : Bool) (q : F) → CalledAt g f x b q → (q ≡ f) × (b ≡ p x)) where
  pub counts_range : (a b n : ℕ) → filter_source s ≡ record { start = a; end = b } → b - a ≡ n → r ≡ count n (λ i. p (a + i))
  counts_range a b n source size =
      count_from_yields_List s r ran (YieldsList-from_filter g p (YieldsList-from_range a b n source size) callee calls)
      ∙ length-filter p (range_with_len a n) ∙ count_by-range p a n

  pub counts_below : (n : ℕ) → filter_source s ≡ record { start = 0; end = n } → r ≡ count n p
  counts_below n source = counts_range 0 n n source (omega arith) ∙ count_cong n (λ i. p (0 + i)) p (λ i l. ap p (zero-add i))
