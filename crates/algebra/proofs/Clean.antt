-- What is shown exactly fits, and what fits under a limit fits under a higher one: counting alone. Assumes nothing.
use Rattle.std.proofs.Common.{◌≡◌, ℕ, ◌*◌, ◌/◌, ◌<◌, Bool, false, not, ◌&&◌, ◌||◌, eqb, ltb, get_or, sym, refl, arith, lt-ltb, eq-eqb}
use Rattle.std.proofs.lemmas.Bool.{and_right, or_from, not_from_true}
use Rattle.algebra.specs.Showings.{Showing, reading, count, doubt, differs, silent}
use Rattle.algebra.specs.Statements.{ExactFits, FitsHigher}
use Rattle.algebra.proofs.Counting.{count_none}

pub exact_fits : ExactFits
exact_fits F m n c rule limit w xs f s =
    record {
      fits = record {
        wrong = λ _. false;
        not_gone = λ j l e. s.present j l;
        strips = omega (arith, nothing, gone, rule.1);
        squares = omega (arith, silents, doubts);
        few = omega (arith, silents);
      };
      none_gone = gone;
      none_doubtful = doubts;
      none_changed = changes;
    }
  where
    v : Showing
    v = reading F.order w

    nothing : count n (λ _. false) ≡ 0
    nothing = count_none n (λ _. false) (λ j l. refl)

    gone : count n w.gone ≡ 0
    gone = count_none n w.gone s.present

    code : (p : ℕ) → p < n * m → w.shown p < F.order
    code p l = rw (s.same p l) (f.codes p (omega (arith, f.size)))

    doubts : count (n * m) (doubt m (reading F.order w)) ≡ 0
    doubts = count_none (n * m) (doubt m (reading F.order w)) (λ p l. and_right (not (w.gone (p / m))) (w.doubtful p || not (ltb (w.shown p) F.order))
        (or_from (w.doubtful p) (not (ltb (w.shown p) F.order)) (s.certain p l) (not_from_true (ltb (w.shown p) F.order) (lt-ltb (w.shown p) F.order (code p l)))))

    same : (p : ℕ) → p < n * m → differs m (reading F.order w) xs p ≡ false
    same p l =
        let d : Bool = w.doubtful p || not (ltb (w.shown p) F.order) in
        let e : Bool = eqb (get_or xs p 0) (w.shown p) in
        and_right (not (w.gone (p / m))) (not d && not e) (and_right (not d) (not e) (not_from_true e (eq-eqb (get_or xs p 0) (w.shown p) (sym (s.same p l)))))

    changes : count (n * m) (differs m (reading F.order w) xs) ≡ 0
    changes = count_none (n * m) (differs m (reading F.order w) xs) same

    silents : count (n * m) (silent m (reading F.order w) (λ _. false) xs) ≡ 0
    silents = count_none (n * m) (silent m (reading F.order w) (λ _. false) xs) same

pub fits_higher : FitsHigher
fits_higher limit limit' m n c w xs h p = record { wrong = p.wrong; not_gone = p.not_gone; strips = p.strips; squares = p.squares; few = omega (arith, p.few) }
