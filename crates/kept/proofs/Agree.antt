-- Showings that agree have the same counts and the same fitting frames: each test at a place sees no more than what agrees.
-- Assumes nothing.
use Rattle.std.proofs.Common.{◌≡◌, ℕ, ◌*◌, ◌/◌, ◌<◌, ◌≤◌, Bool, true, false, not, ◌&&◌, ◌||◌, eqb, ltb, List, get_or, sym, refl, ap, ◌∙◌, div-lt_iff_lt-mul, arith}
use Rattle.algebra.specs.Showings.{Showing, reading, count, doubt, differs, silent, gone_strips, doubtful_squares, changed_squares, Fits}
use Rattle.algebra.proofs.Counting.{count_cong}
use Rattle.kept.specs.Shows.{Agree}

-- a test of a place that does not look at the squares of a gone strip, nor at the code of a doubtful square
record Blind (test : Bool → Bool → ℕ → Bool) : Type 0 where
  gone : (d d' : Bool) (x x' : ℕ) → test true d x ≡ test true d' x'
  doubtful : (x x' : ℕ) → test false true x ≡ test false true x'

blind_same : (test : Bool → Bool → ℕ → Bool) → Blind test → (g g' d d' : Bool) (x x' : ℕ) → g ≡ g' → (g ≡ false → d ≡ d') → (g ≡ false → d ≡ false → x ≡ x')
    → test g d x ≡ test g' d' x'
blind_same test b true g' d d' x x' e hd hx = b.gone d d' x x' ∙ ap (λ a. test a d' x') e
blind_same test b false g' true d' x x' e hd hx = b.doubtful x x' ∙ ap (λ a. test false a x') (hd refl) ∙ ap (λ a. test a d' x') e
blind_same test b false g' false d' x x' e hd hx = ap (test false false) (hx refl refl) ∙ ap (λ a. test false a x') (hd refl) ∙ ap (λ a. test a d' x') e

module _ (q m n : ℕ) (some : 1 ≤ m) (v w : Showing) (a : Agree m n v w) where
  at : (test : Bool → Bool → ℕ → Bool) → Blind test → (p : ℕ) → p < n * m
      → test (v.gone (p / m)) (v.doubtful p) (v.shown p) ≡ test (w.gone (p / m)) (w.doubtful p) (w.shown p)
  at test b p h =
      blind_same test b (v.gone (p / m)) (w.gone (p / m)) (v.doubtful p) (w.doubtful p) (v.shown p) (w.shown p) (a.gone (p / m) ((div-lt_iff_lt-mul some).1 h)) (a.doubtful p h) (a.shown p h)

  pub agree_gone : gone_strips n (reading q v) ≡ gone_strips n (reading q w)
  agree_gone = count_cong n v.gone w.gone a.gone

  pub agree_doubtful : doubtful_squares m n (reading q v) ≡ doubtful_squares m n (reading q w)
  agree_doubtful = count_cong (n * m) (doubt m (reading q v)) (doubt m (reading q w))
      (at (λ g d x. not g && (d || not (ltb x q))) (record { gone = λ d d' x x'. refl; doubtful = λ x x'. refl }))

  agree_differs : (xs : List ℕ) (p : ℕ) → p < n * m → differs m (reading q v) xs p ≡ differs m (reading q w) xs p
  agree_differs xs p h =
      at (λ g d x. not g && (not (d || not (ltb x q)) && not (eqb (get_or xs p 0) x))) (record { gone = λ d d' x x'. refl; doubtful = λ x x'. refl }) p h

  pub agree_changed : (xs : List ℕ) → changed_squares m n (reading q v) xs ≡ changed_squares m n (reading q w) xs
  agree_changed xs = count_cong (n * m) (differs m (reading q v) xs) (differs m (reading q w) xs) (agree_differs xs)

  pub agree_fits : (limit c : ℕ) (xs : List ℕ) → Fits limit m n c (reading q v) xs → Fits limit m n c (reading q w) xs
  agree_fits limit c xs f =
      let silents : count (n * m) (silent m (reading q v) f.wrong xs) ≡ count (n * m) (silent m (reading q w) f.wrong xs) =
      count_cong (n * m) (silent m (reading q v) f.wrong xs) (silent m (reading q w) f.wrong xs) (λ p h. ap (λ b. not (f.wrong (p / m)) && b) (agree_differs xs p h)) in
      record {
        wrong = f.wrong;
        not_gone = λ j h e. sym (a.gone j h) ∙ f.not_gone j h e;
        strips = omega (arith, f.strips, agree_gone);
        squares = omega (arith, f.squares, silents, agree_doubtful);
        few = omega (arith, f.few, silents);
      }

pub agree_sym : (m n : ℕ) → 1 ≤ m → (v w : Showing) → Agree m n v w → Agree m n w v
agree_sym m n some v w a = record {
  gone = λ j h. sym (a.gone j h);
  doubtful = λ p h g. sym (a.doubtful p h (there p h g));
  shown = λ p h g d. sym (a.shown p h (there p h g) (a.doubtful p h (there p h g) ∙ d));
}
  where
    there : (p : ℕ) → p < n * m → w.gone (p / m) ≡ false → v.gone (p / m) ≡ false
    there p h g = a.gone (p / m) ((div-lt_iff_lt-mul some).1 h) ∙ g
