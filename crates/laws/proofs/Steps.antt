-- A list holds the powers of a from exponent 0 on: one test, by one multiplication an entry. Assumes nothing.
use Rattle.std.proofs.Common.{◌≡◌, ℕ, zero, suc, ◌+◌, ◌<◌, Bool, true, ◌&&◌, T, eqb, List, [], ◌∷◌, length, get_or, sym, ap, ◌∙◌, le_of_suc-le-suc, not-suc-le-zero, add-zero, add-suc, suc-add, zero-add, eqb→eq}
use Rattle.laws.specs.Binary.{raise}
use Rattle.laws.proofs.Tests.{both_parts}

-- the list is y, f y, f (f y) and so on
abbrev pub steps : (ℕ → ℕ) → ℕ → List ℕ → Bool
steps f y [] = true
steps f y (x ∷ xs) = eqb x y && steps f (f y) xs

module _ (mul : ℕ → ℕ → ℕ) (a : ℕ) where
  from : (xs : List ℕ) (i : ℕ) → T (steps (mul a) (raise mul a i) xs) → (k : ℕ) → k < length xs → get_or xs k 0 ≡ raise mul a (i + k)
  from [] i t k h = absurd (not-suc-le-zero h)
  from (x ∷ xs) i t zero h = eqb→eq x (raise mul a i) (both_parts (eqb x (raise mul a i)) (steps (mul a) (raise mul a (suc i)) xs) t).0 ∙ ap (raise mul a) (sym (add-zero i))
  from (x ∷ xs) i t (suc k) h =
      from xs (suc i) (both_parts (eqb x (raise mul a i)) (steps (mul a) (raise mul a (suc i)) xs) t).1 k (le_of_suc-le-suc h)
      ∙ ap (raise mul a) (suc-add i k ∙ sym (add-suc i k))

  pub raise_at : (xs : List ℕ) → T (steps (mul a) 1 xs) → (k : ℕ) → k < length xs → get_or xs k 0 ≡ raise mul a k
  raise_at xs t k h = from xs 0 t k h ∙ ap (raise mul a) (zero-add k)
