-- What a frame shows after a writing: place by place, from the writing's own facts. Assumes nothing.
use Rattle.std.proofs.Common.{◌≡◌, ℕ, ◌+◌, ◌*◌, ◌/◌, ◌%◌, ◌<◌, ◌≤◌, ◌≢◌, List, get_or, sym, ap, ◌∙◌, subst, mod-lt, div-lt_iff_lt-mul, div-add-mod'}
use Rattle.algebra.specs.Statements.{ShowsExactly}
use Rattle.medium.specs.Meaning.{Meaning, clear}
use Rattle.medium.specs.Write.{Written}
use Rattle.kept.specs.Shows.{unclear, code_on, shown_of, Shows}

-- another frame shows what it did
pub shown_beside : (v w : Meaning) (f g : ℕ) (xs : List ℕ) → Written v f xs w → g ≢ f → shown_of w g ≡ shown_of v g
unfolding shown_of
shown_beside v w f g xs put ne = λ i. record {
  gone = put.others_gone g ne i;
  doubtful = λ p. unclear (put.others_square g ne i (p / put.shape.squares i) (p % put.shape.squares i));
  shown = λ p. code_on (put.others_square g ne i (p / put.shape.squares i) (p % put.shape.squares i));
}

-- the frame shows what was written
pub shows_written : (v w : Meaning) (f : ℕ) (xs : List ℕ) → Written v f xs w → Shows w f xs
shows_written v w f xs put = record {
  present = λ s h. put.present s (subst (λ n. s < n) put.shape.strips h);
  coded = λ s k h l. put.codes_there s k (subst (λ n. s < n) put.shape.strips h) (subst (λ m. k < m) put.shape.squares l) ∙ ap (λ m. clear (get_or xs (s * m + k) 0)) (sym put.shape.squares);
}

-- and so it shows exactly that
pub shows_exactly : (w : Meaning) (f m n : ℕ) (xs : List ℕ) → 1 ≤ m → w.strips ≡ n → w.squares ≡ m → Shows w f xs → ShowsExactly m n (shown_of w f) xs
unfolding shown_of
shows_exactly w f m n xs some strips squares s = record {
  present = λ j h. s.present j (subst (λ k. j < k) (sym strips) h);
  certain = λ p h. ap unclear (at p h);
  same = λ p h. ap code_on (at p h);
}
  where
    at : (p : ℕ) → p < n * m → w.square f (p / w.squares) (p % w.squares) ≡ clear (get_or xs p 0)
    at p h =
        s.coded (p / w.squares) (p % w.squares) (subst (λ t. p / t < w.strips) (sym squares) (subst (λ k. p / m < k) (sym strips) ((div-lt_iff_lt-mul some).1 h))) (mod-lt p (subst (λ t. 1 ≤ t) (sym squares) some))
        ∙ ap (λ t. clear (get_or xs t 0)) (div-add-mod' p w.squares)
