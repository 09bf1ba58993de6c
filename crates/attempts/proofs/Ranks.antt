-- The list of the doubtful squares has each at its rank. Assumes nothing.
use Rattle.std.proofs.Common.{◌≡◌, ℕ, zero, suc, ◌+◌, ◌*◌, ◌<◌, Bool, true, false, cond, List, [], ◌∷◌, ◌++◌, length, get_or, sym, refl, ap, ◌∙◌, subst, inl, inr, zero-add, add-one, arith, length-append}
use Rattle.std.specs.List.{filter, range_with_len, enumerate_from}
use Rattle.std.proofs.lemmas.Bool.{cases_eq}
use Rattle.std.proofs.Math.Seq.{get_or-append_seam}
use Rattle.std.proofs.lemmas.List.{get_or_append_left, get_or_default, take_all, map-id}
use Rattle.std.proofs.lemmas.List.FromFn.{filter_of_map_range_with_len_more, get_or-enumerate_from, length-enumerate_from}
use Rattle.algebra.specs.Showings.{Showing, count, doubt, doubtful_squares}
use Rattle.solver.proofs.Ranks.{count_room}
use Rattle.correction.specs.Tries.{Doubted}
use Rattle.correction.proofs.Lists.{doubted}
use Rattle.attempts.specs.Shown.{doubtful_list}

module _ (t : ℕ → Bool) where
  -- the numbers below k that pass
  abbrev passing : ℕ → List ℕ
  passing k = filter t (range_with_len 0 k)

  passing_more : (k : ℕ) → passing (suc k) ≡ passing k ++ cond (t k) (k ∷ []) []
  passing_more k =
      ap passing (sym (add-one k)) ∙ ap (filter t) (sym (map-id (range_with_len 0 (k + 1)))) ∙ filter_of_map_range_with_len_more t (λ x. x) 0 k k (omega arith)
      ∙ ap (λ zs. filter t zs ++ cond (t k) (k ∷ []) []) (map-id (range_with_len 0 k))

  length-one : (b : Bool) (k : ℕ) → length (cond b (k ∷ []) []) ≡ cond b 1 0
  length-one true k = refl
  length-one false k = refl

  length-passing : (k : ℕ) → length (passing k) ≡ count k t
  length-passing zero = refl
  length-passing (suc k) = ap length (passing_more k) ∙ length-append (passing k) (cond (t k) (k ∷ []) []) ∙ ap (λ a. a + length (cond (t k) (k ∷ []) [])) (length-passing k) ∙ ap (λ a. count k t + a) (length-one (t k) k)

  passing_at : (k p : ℕ) → p < k → t p ≡ true → get_or (passing k) (count p t) 0 ≡ p
  passing_at zero p l h = absurd (omega arith)
  passing_at (suc k) p l h = ap (λ zs. get_or zs (count p t) 0) (passing_more k) ∙ elim (cases_eq p k) [
    | inl q ↦ ap (λ b. get_or (passing k ++ cond b (k ∷ []) []) (count p t) 0) (ap t (sym q) ∙ h) ∙ ap (λ i. get_or (passing k ++ k ∷ []) i 0) (ap (λ i. count i t) q ∙ sym (length-passing k))
        ∙ get_or-append_seam (passing k) k [] 0 ∙ sym q
    | inr ne ↦ get_or_append_left (passing k) (cond (t k) (k ∷ []) []) 0 (count p t) (omega (arith, count_room t p k (omega arith) h, length-passing k)) ∙ passing_at k p (omega arith) h
  ]

pub length-doubtful_list : (m n : ℕ) (w : Showing) → length (doubtful_list m n w) ≡ doubtful_squares m n w
length-doubtful_list m n w = length-passing (doubt m w) (n * m)

pub list_doubted : (m n : ℕ) (w : Showing) (squares : List ℕ) → squares ≡ doubtful_list m n w → Doubted m n w squares
list_doubted m n w squares e =
    let xs = doubtful_list m n w in
    subst (λ (zs : List ℕ). Doubted m n w zs) (take_all (length xs) xs (omega arith) ∙ sym e) (doubted m n w xs (length xs) (length-doubtful_list m n w) (omega arith) (passing_at (doubt m w) (n * m)))

-- where an item stands in a numbered list
pub numbered : (xs : List ℕ) (i rank x : ℕ) → (i < length (enumerate_from 0 xs)) × ((rank, x) ≡ get_or (enumerate_from 0 xs) i (rank, x)) → (i < length xs) × (rank ≡ i) × (x ≡ get_or xs i 0)
numbered xs i rank x (l, e) =
    let there : i < length xs = omega (arith, length-enumerate_from 0 xs) in
    let q = e ∙ get_or-enumerate_from 0 xs i (rank, x) there in
    (there, ap (λ p. p.0) q ∙ zero-add i, ap (λ p. p.1) q ∙ get_or_default xs i x 0 there)
