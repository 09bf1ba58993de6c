-- A frame that fits with no silent square is close, and one with a silent square is close with that square more. Assumes nothing.
use Rattle.std.proofs.Common.{◌≡◌, ℕ, ◌+◌, ◌*◌, ◌/◌, ◌<◌, ◌≤◌, Bool, true, false, cond, not, ◌&&◌, eqb, ◌⊎◌, List, get_or, sym, ap, ◌∙◌, inl, inr, div-lt_iff_lt-mul, arith}
use Rattle.std.proofs.lemmas.Bool.{cases_eq, cases_order, cases_Bool, eqb-true, and_parts, and_from}
use Rattle.laws.specs.Ops.{Ops}
use Rattle.algebra.specs.Frames.{IsFrame}
use Rattle.algebra.specs.Showings.{Showing, count, doubt, differs, silent, doubtful_squares, Fits}
use Rattle.algebra.proofs.Counting.{count_cong, count_room}
use Rattle.algebra.proofs.Fitting.{as_shown}
use Rattle.solver.specs.Sums.{marked}
use Rattle.solver.proofs.Ranks.{select}
use Rattle.correction.specs.Nearing.{Near}
use Rattle.correction.specs.Tries.{clear, Readout, Masked, Covers, Close, Missed}

-- a list that covers takes what is close near
pub close_near : (F : Ops) (m n c : ℕ) (w : Showing) (gone : List Bool) (squares : List ℕ) (extra : ℕ) → 0 < m → Masked n w gone → Covers m n w extra squares
    → (wrong : ℕ → Bool) (xs ys : List ℕ) → Close F m n c w wrong extra xs ys → Near F m n c (marked gone) wrong squares 0 xs ys
close_near F m n c w gone squares extra pos mask covers wrong xs ys close = record {
  frame = close.frame;
  room = omega (arith, close.room, count_cong n (marked gone) w.gone mask.is);
  agrees = λ p l. elim (close.agrees p l) [
    | inl e ↦ inl e
    | inr (inl h) ↦ inr (inl (mask.is (p / m) ((div-lt_iff_lt-mul pos).1 l) ∙ h))
    | inr (inr (inl h)) ↦ inr (inr (inl h))
    | inr (inr (inr h)) ↦ inr (inr (inr (covers p l h)))
  ];
}

certain : (g d : Bool) → g ≡ false → (not g && d) ≡ false → (not g && not d) ≡ true
certain g d p q = let n : d ≡ false = cc in cc

module _ (F : Ops) (m n c : ℕ) (w : Showing) (xs ys : List ℕ) (read : Readout m n w xs) (frame : IsFrame F m n c ys) where
  -- where the frame differs from what was read, and nothing else explains it, a square is silent
  differing : (wrong : ℕ → Bool) (p : ℕ) → p < n * m
      → (get_or xs p 0 ≡ get_or ys p 0) ⊎ ((w.gone (p / m) ≡ true) ⊎ ((wrong (p / m) ≡ true) ⊎ ((doubt m w p ≡ true) ⊎ (silent m w wrong ys p ≡ true))))
  differing wrong p l = elim (cases_Bool (w.gone (p / m))) [
    | inl g ↦ inr (inl g)
    | inr g ↦ elim (cases_Bool (wrong (p / m))) [
      | inl h ↦ inr (inr (inl h))
      | inr h ↦ elim (cases_Bool (doubt m w p)) [
        | inl d ↦ inr (inr (inr (inl d)))
        | inr d ↦ elim (cases_Bool (silent m w wrong ys p)) [
          | inl z ↦ inr (inr (inr (inr z)))
          | inr z ↦ inl (read.is p l ∙ ap (λ b. cond b (w.shown p) 0) (certain (w.gone (p / m)) (w.doubtful p) g d)
              ∙ sym (eqb-true (get_or ys p 0) (w.shown p) (as_shown (w.gone (p / m)) (wrong (p / m)) (w.doubtful p) (eqb (get_or ys p 0) (w.shown p)) g h d z)))
        ]
      ]
    ]
  ]

  silent_clear : (wrong : ℕ → Bool) (p : ℕ) → silent m w wrong ys p ≡ true → clear m w p ≡ true
  silent_clear wrong p h =
      let q = and_parts (not (wrong (p / m))) (differs m w ys p) h in
      let r = and_parts (not (w.gone (p / m))) (not (w.doubtful p) && not (eqb (get_or ys p 0) (w.shown p))) q.1 in
      and_from (not (w.gone (p / m))) (not (w.doubtful p)) r.0 (and_parts (not (w.doubtful p)) (not (eqb (get_or ys p 0) (w.shown p))) r.1).0

  -- what fits has been tried
  pub fit_tried : (limit : ℕ) → limit ≤ 1 → Fits limit m n c w ys → Missed F limit m n c w xs (n * m)
      → (2 + doubtful_squares m n w ≤ m → (p : ℕ) → p < n * m → clear m w p ≡ true → Missed F limit m n c w xs p) → ⊥
  fit_tried limit one fits none each = elim (cases_eq (count (n * m) s) 0) [
    | inl z ↦ none fits.wrong ys (close (n * m) (λ p l h. absurd (omega (arith, count_room s p (n * m) l h)))) fits
    | inr some ↦ (let r = select s (n * m) 0 (omega arith) in
        each (omega (arith, fits.squares)) r.0 r.1 (silent_clear fits.wrong r.0 r.2) fits.wrong ys (close r.0 (λ p l h. elim (cases_order p r.0) [
          | inl e ↦ e
          | inr (inl k) ↦ absurd (omega (arith, count_room s p r.0 k h, r.3))
          | inr (inr k) ↦ absurd (omega (arith, count_room s r.0 p k r.2, count_room s p (n * m) l h, fits.few))
        ])) fits)
  ]
    where
      s : ℕ → Bool
      s = silent m w fits.wrong ys

      close : (extra : ℕ) → ((p : ℕ) → p < n * m → s p ≡ true → p ≡ extra) → Close F m n c w fits.wrong extra xs ys
      close extra only = record {
        frame = frame;
        room = fits.strips;
        agrees = λ p l. elim (differing fits.wrong p l) [
          | inl e ↦ inl e
          | inr (inl h) ↦ inr (inl h)
          | inr (inr (inl h)) ↦ inr (inr (inl h))
          | inr (inr (inr (inl h))) ↦ inr (inr (inr (inl h)))
          | inr (inr (inr (inr h))) ↦ inr (inr (inr (inr (only p l h))))
        ];
      }
