-- A frame fits exactly if the fewest wrong strips are few enough: the silent squares are the changes of the strips that are left
-- out. Assumes nothing.
use Rattle.std.proofs.Common.{◌≡◌, ℕ, ◌+◌, ◌-◌, ◌*◌, ◌/◌, ◌<◌, ◌≤◌, min, Bool, cond, not, ◌&&◌, List, sym, ap, ◌∙◌, inl, inr, eqb, get_or, true, mul-le-mul_left, mul-one, arith}
use Rattle.std.proofs.lemmas.Bool.{cases_Bool}
use Rattle.algebra.specs.Showings.{Showing, count, differs, silent, gone_strips, doubtful_squares, Fits}
use Rattle.fitting.specs.Wrong.{total, changes, left_out, Fewest, Budget}
use lib.Arith.{digits_div}
use Rattle.algebra.proofs.Counting.{count_le, count_cong, count_none}
use Rattle.fitting.proofs.Counting.{count_blocks, total_same}

module _ (m n : ℕ) (w : Showing) (xs : List ℕ) where
  changes_gone : (j : ℕ) → w.gone j ≡ true → changes m w xs j ≡ 0
  changes_gone j e =
      count_none m (λ κ. differs m w xs (j * m + κ))
      (λ κ l. ap (λ z. not z && (not (w.doubtful (j * m + κ)) && not (eqb (get_or xs (j * m + κ) 0) (w.shown (j * m + κ))))) (ap w.gone (digits_div j l) ∙ e))

  silent_strip : (wrong : ℕ → Bool) (j : ℕ) → count m (λ κ. silent m w wrong xs (j * m + κ)) ≡ left_out (changes m w xs) wrong j
  silent_strip wrong j = elim (cases_Bool (wrong j)) [
    | inl e ↦ count_none m (λ κ. silent m w wrong xs (j * m + κ)) (λ κ l. ap (λ z. not z && differs m w xs (j * m + κ)) (ap wrong (digits_div j l) ∙ e))
        ∙ sym (ap (λ b. cond b 0 (changes m w xs j)) e)
    | inr e ↦ count_cong m (λ κ. silent m w wrong xs (j * m + κ)) (λ κ. differs m w xs (j * m + κ)) (λ κ l. ap (λ z. not z && differs m w xs (j * m + κ)) (ap wrong (digits_div j l) ∙ e))
        ∙ sym (ap (λ b. cond b 0 (changes m w xs j)) e)
  ]

  pub silent_total : (wrong : ℕ → Bool) → count (n * m) (silent m w wrong xs) ≡ total n (left_out (changes m w xs) wrong)
  silent_total wrong = count_blocks (silent m w wrong xs) m n
      ∙ total_same n (λ j. count m (λ κ. silent m w wrong xs (j * m + κ))) (left_out (changes m w xs) wrong) (λ j l. silent_strip wrong j)

  module _ (limit c budget r : ℕ) (b : Budget limit m (doubtful_squares m n w) budget) (f : Fewest n budget (changes m w xs) r) where
    few_fit : 2 * r + gone_strips n w < c → Fits limit m n c w xs
    few_fit l =
        let s = silent_total f.naming.wrong in
        record {
          wrong = f.naming.wrong;
          not_gone = λ j h e. elim (cases_Bool (w.gone j)) [ inl g ↦ absurd (omega (arith, f.naming.changed j h e, changes_gone j g)) | inr g ↦ g ];
          strips = omega (arith, f.naming.number);
          squares = omega (arith, f.naming.within, b.squares);
          few = omega (arith, f.naming.within, b.few);
        }

    fit_few : Fits limit m n c w xs → 2 * r + gone_strips n w < c
    fit_few p =
        let s = silent_total p.wrong in
        let inside : total n (left_out (changes m w xs) p.wrong) ≤ budget = b.most (total n (left_out (changes m w xs) p.wrong)) (omega (arith, p.few)) (omega (arith, p.squares)) in
        omega (arith, f.least p.wrong inside, p.strips)

-- the same by the numbers that were found
module _ (m n : ℕ) (w : Showing) (xs : List ℕ) (limit c gone doubtful squares budget r : ℕ)
    (g : gone ≡ gone_strips n w) (d : doubtful ≡ doubtful_squares m n w) (q : squares ≡ m) (l : doubtful ≤ squares)
    (b : budget ≡ min limit ((squares - doubtful) / 2)) (f : Fewest n budget (changes m w xs) r) where
  most : Budget limit m (doubtful_squares m n w) budget
  most = record { few = omega arith; squares = omega arith; most = λ x h k. omega arith }

  pub weighed_fit : 2 * r + gone < c → Fits limit m n c w xs
  weighed_fit h = few_fit m n w xs limit c budget r most f (omega arith)

  pub weighed_none : c ≤ 2 * r + gone → Fits limit m n c w xs → ⊥
  weighed_none h p = let t = fit_few m n w xs limit c budget r most f p in omega arith

pub weighed_room : (n budget gone r : ℕ) (w : Showing) (d : ℕ → ℕ) → n ≤ 256 → gone ≡ gone_strips n w → Fewest n budget d r → 2 * r + gone < 1000
weighed_room n budget gone r w d l g f = omega (arith, f.naming.number, count_le f.naming.wrong n, count_le w.gone n)

pub strips_few : (m n q : ℕ) → 1 ≤ m → n * m < q → q ≤ 256 → n ≤ 256
strips_few m n q l h k = let le : n * 1 ≤ n * m = mul-le-mul_left n l in omega (arith, mul-one n)
