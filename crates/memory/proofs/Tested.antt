-- A test of every number below a limit, by induction on the limit. Assumes nothing.
use Rattle.std.proofs.Common.{◌≡◌, ℕ, zero, suc, ◌<◌, Bool, true, false, ◌&&◌, ◌≤◌, List, length, take, get_or, sym, refl, ap, ◌∙◌, ⊎_elim, add-one, arith}
use Rattle.std.proofs.lemmas.Bool.{and_from, cases_eq}
use Rattle.std.specs.List.{list_all}
use Rattle.std.proofs.lemmas.List.{take_all}
use Rattle.std.proofs.lemmas.List.Folds.{list_all_more}
use Rattle.memory.specs.Every.{every}

and_false : (a : Bool) → (a && false) ≡ false
and_false true = refl
and_false false = refl

-- one that fails
pub every_fails : (n k : ℕ) (p : ℕ → Bool) → k < n → p k ≡ false → every n p ≡ false
every_fails zero k p l h = absurd (omega arith)
every_fails (suc n) k p l h =
    ⊎_elim (λ e. ap (λ b. every n p && b) (sym (ap p e) ∙ h) ∙ and_false (every n p)) (λ ne. ap (λ b. b && p n) (every_fails n k p (omega arith) h)) (cases_eq k n)

-- all hold
pub every_holds : (n : ℕ) (p : ℕ → Bool) → ((k : ℕ) → k < n → p k ≡ true) → every n p ≡ true
every_holds zero p h = refl
every_holds (suc n) p h = and_from (every n p) (p n) (every_holds n p (λ k l. h k (omega arith))) (h n (omega arith))

-- the same tests
pub every_same : (n : ℕ) (p q : ℕ → Bool) → ((k : ℕ) → k < n → p k ≡ q k) → every n p ≡ every n q
every_same zero p q h = refl
every_same (suc n) p q h = λ i. every_same n p q (λ k l. h k (omega arith)) i && h n (omega arith) i

every_taken : {X : Type 0} (d : X) (q : X → Bool) (xs : List X) (n : ℕ) (p : ℕ → Bool) → length xs ≡ n → ((k : ℕ) → k < n → p k ≡ q (get_or xs k d)) → (k : ℕ) → k ≤ n → every k p ≡ list_all q (take k xs)
every_taken d q xs n p long same zero h = refl
every_taken d q xs n p long same (suc k) h =
    (λ i. every_taken d q xs n p long same k (omega arith) i && same k (omega arith) i) ∙ sym (ap (λ j. list_all q (take j xs)) (sym (add-one k)) ∙ list_all_more q xs k d (omega arith))

-- as a test of a list, element by element
pub every_list : {X : Type 0} (d : X) (q : X → Bool) (xs : List X) (n : ℕ) (p : ℕ → Bool) → length xs ≡ n → ((k : ℕ) → k < n → p k ≡ q (get_or xs k d)) → every n p ≡ list_all q xs
every_list d q xs n p long same =
    let part : (k : ℕ) → k ≤ n → every k p ≡ list_all q (take k xs) = every_taken d q xs n p long same in
    part n (omega arith) ∙ ap (list_all q) (take_all n xs (omega arith))
