-- The list of the doubtful squares, made in their order, and that list with one clear square more. Assumes nothing.
use Rattle.std.proofs.Common.{◌≡◌, ℕ, ◌+◌, ◌*◌, ◌/◌, ◌<◌, ◌≤◌, Bool, true, not, ◌&&◌, List, length, get_or, take, set, sym, ap, ◌∙◌, subst, inl, inr, arith, length-set, get_or-set_other, get_or-take, get_or-set_same}
use Rattle.std.proofs.lemmas.List.{length-take-le}
use Rattle.std.proofs.lemmas.Bool.{cases_eq, both_ways, not-true, and_parts}
use Rattle.laws.specs.Ops.{Ops}
use Rattle.algebra.specs.Frames.{square_locator}
use Rattle.algebra.specs.Showings.{Showing, count, doubt, doubtful_squares}
use Rattle.algebra.proofs.Counting.{count_room}
use Rattle.solver.proofs.Ranks.{select}
use Rattle.correction.specs.Nearing.{Listed}
use Rattle.correction.specs.Tries.{clear, Covers, Doubted}

clear_not : (g d : Bool) → (not g && not d) ≡ true → (not g && d) ≡ true → ⊥
clear_not g d x y = both_ways d (not-true d (and_parts (not g) (not d) x).1) (and_parts (not g) d y).1

module _ (m n : ℕ) (w : Showing) where
  -- each doubtful square stands at its rank
  pub doubted : (squares : List ℕ) (d : ℕ) → d ≡ doubtful_squares m n w → d ≤ length squares
      → ((p : ℕ) → p < n * m → doubt m w p ≡ true → get_or squares (count p (doubt m w)) 0 ≡ p) → Doubted m n w (take d squares)
  doubted squares d e room at = record {
    number = size ∙ e;
    all = λ p l h. (
      count p (doubt m w),
      omega arith,
      omega (arith, size, count_room (doubt m w) p (n * m) l h),
      get_or-take d squares (count p (doubt m w)) 0 (omega (arith, count_room (doubt m w) p (n * m) l h)) ∙ at p l h,
    );
    places = λ i l. let r = ranked i l in subst (λ (z : ℕ). z < n * m) (sym r.3) r.1;
    only = λ i l. let r = ranked i l in ap (doubt m w) r.3 ∙ r.2.0;
    apart = λ i j li lj q. let r = ranked i li in let t = ranked j lj in sym r.2.1 ∙ ap (λ k. count k (doubt m w)) (sym r.3 ∙ q ∙ t.3) ∙ t.2.1;
  }
    where
      size : length (take d squares) ≡ d
      size = length-take-le d squares room

      ranked : (i : ℕ) → i < length (take d squares) → (p : ℕ) × (p < n * m) × ((doubt m w p ≡ true) × (count p (doubt m w) ≡ i)) × (get_or (take d squares) i 0 ≡ p)
      ranked i l =
          let r = select (doubt m w) (n * m) i (omega (arith, size)) in
          (r.0, r.1, (r.2, r.3), get_or-take d squares i 0 (omega (arith, size)) ∙ ap (λ k. get_or squares k 0) (sym r.3) ∙ at r.0 r.1 r.2)

  pub doubted_covers : (squares : List ℕ) → Doubted m n w squares → Covers m n w (n * m) squares
  doubted_covers squares list p l (inl h) = list.all p l h
  doubted_covers squares list p l (inr e) = absurd (omega arith)

  module _ (F : Ops) (squares points : List ℕ) (d : ℕ) (room : d ≤ length squares) (list : Doubted m n w (take d squares)) where
    d_is : length (take d squares) ≡ d
    d_is = length-take-le d squares room

    module _ (p0 x0 : ℕ) (wide : d < length squares) (lp : p0 < n * m) (is_clear : clear m w p0 ≡ true) where
      abbrev more : List ℕ
      more = take (d + 1) (set squares d p0)

      more_size : length more ≡ d + 1
      more_size = length-take-le (d + 1) (set squares d p0) (omega (arith, length-set squares d p0))

      last : get_or more d 0 ≡ p0
      last = get_or-take (d + 1) (set squares d p0) d 0 (omega arith) ∙ get_or-set_same squares d p0 0 wide

      before : (i : ℕ) → i < d → get_or more i 0 ≡ get_or (take d squares) i 0
      before i l = get_or-take (d + 1) (set squares d p0) i 0 (omega arith) ∙ get_or-set_other squares d i p0 0 (λ e. omega arith) ∙ sym (get_or-take d squares i 0 l)

      pub more_covers : Covers m n w p0 (take (d + 1) (set squares d p0))
      more_covers p l (inl h) = let r = list.all p l h in (r.0, omega arith, omega (arith, r.2, d_is, more_size), before r.0 (omega (arith, r.2, d_is)) ∙ r.3)
      more_covers p l (inr e) = (d, omega arith, omega (arith, more_size), last ∙ sym e)

      fresh : (i : ℕ) → i < d → get_or more i 0 ≡ get_or more d 0 → ⊥
      fresh i l e = clear_not (w.gone (p0 / m)) (w.doubtful p0) is_clear (ap (doubt m w) (sym last ∙ sym e ∙ before i l) ∙ list.only i (omega (arith, d_is)))

      pub more_listed : d + 1 ≤ m → d < length points → x0 ≡ square_locator F p0 → ((i : ℕ) → i < d → get_or points i 0 ≡ square_locator F (get_or squares i 0))
          → Listed F m n (take (d + 1) (set squares d p0)) (take (d + 1) (set points d x0))
      more_listed few room' x_is at = record {
        few = omega (arith, more_size);
        size = length-take-le (d + 1) (set points d x0) (omega (arith, length-set points d x0)) ∙ sym more_size;
        places = λ i l. elim (cases_eq i d) [
          | inl e ↦ rw (ap (λ k. get_or more k 0) e ∙ last) lp
          | inr ne ↦ rw (before i (omega (arith, more_size))) (list.places i (omega (arith, more_size, d_is)))
        ];
        located = λ i l. get_or-take (d + 1) (set points d x0) i 0 (omega (arith, more_size)) ∙ elim (cases_eq i d) [
          | inl e ↦ ap (λ k. get_or (set points d x0) k 0) e ∙ get_or-set_same points d x0 0 room' ∙ x_is ∙ ap (square_locator F) (sym (ap (λ k. get_or more k 0) e ∙ last))
          | inr ne ↦ get_or-set_other points d i x0 0 ne ∙ at i (omega (arith, more_size)) ∙ ap (square_locator F) (sym (get_or-take (d + 1) (set squares d p0) i 0 (omega (arith, more_size)) ∙ get_or-set_other squares d i p0 0 ne))
        ];
        apart = λ i j li lj e. elim (cases_eq i d) [
          | inl q ↦ elim (cases_eq j d) [ inl r ↦ q ∙ sym r | inr r ↦ absurd (fresh j (omega (arith, more_size)) (sym e ∙ ap (λ k. get_or more k 0) q)) ]
          | inr q ↦ elim (cases_eq j d) [
            | inl r ↦ absurd (fresh i (omega (arith, more_size)) (e ∙ ap (λ k. get_or more k 0) r))
            | inr r ↦ list.apart i j (omega (arith, more_size, d_is)) (omega (arith, more_size, d_is)) (sym (before i (omega (arith, more_size))) ∙ e ∙ before j (omega (arith, more_size)))
          ]
        ];
      }
