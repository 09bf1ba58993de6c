-- One strip more is solved for its symbols. Assumes nothing.
use Rattle.std.proofs.Common.{◌≡◌, ℕ, ◌+◌, ◌-◌, ◌*◌, ◌<◌, ◌≤◌, List, length, get_or, sym, ap, ◌∙◌, subst, inl, inr, arith}
use borrow.Rule.Slice.PartMut.{put_mid}
use Rattle.std.proofs.lemmas.Bool.{cases_eq, cases_lt}
use Rattle.laws.specs.Ops.{Ops, power, sum}
use Rattle.solver.specs.Sums.{Solved}
use Rattle.solver.proofs.Parts.{part, put_before, put_in, sum_cong}
use Rattle.frame.specs.Tables.{column, FilledIn}
use Rattle.frame.proofs.Strips.{strip_end, in_strip, next_strip, part_size, part_at, strips_later}

-- the power sums of a strip go by its symbols
pub column_cong : (F : Ops) (m : ℕ) (points xs ys : List ℕ) (j h : ℕ) → ((κ : ℕ) → κ < m → get_or xs (j * m + κ) 0 ≡ get_or ys (j * m + κ) 0)
    → column F m points xs j h ≡ column F m points ys j h
column_cong F m points xs ys j h e =
    sum_cong F m (λ κ. F.mul (get_or xs (j * m + κ) 0) (power F (get_or points (j * m + κ) 0) h)) (λ κ. F.mul (get_or ys (j * m + κ) 0) (power F (get_or points (j * m + κ) 0) h))
    (λ κ l. ap (λ x. F.mul x (power F (get_or points (j * m + κ) 0) h)) (e κ l))

module _ (F : Ops) (m n j : ℕ) (points start xs new : List ℕ) (lj : j < n) (lp : length points ≡ n * m) (lx : length xs ≡ n * m) (ln : length new ≡ m)
    (solved : Solved F (part (j * m) (j * m + m) points) (part (j * m) (j * m + m) xs) new) (done : FilledIn F m j points start xs) where
  after : List ℕ
  after = put_mid (j * m) (j * m + m - j * m) xs new

  room : j * m + m ≤ length xs
  room = let e = strip_end m n j lj in omega arith

  at_new : (h : ℕ) → h < m → get_or after (j * m + h) 0 ≡ get_or new h 0
  unfolding after
  at_new h l = let e = room in put_in (j * m) (j * m + m - j * m) xs new h (omega arith) (omega arith)

  at_old : (p : ℕ) → p < j * m → get_or after p 0 ≡ get_or xs p 0
  unfolding after
  at_old p l = let e = room in put_before (j * m) (j * m + m - j * m) xs new p l (omega arith)

  here : (h : ℕ) → h < m → column F m points after j h ≡ get_or start (j * m + h) 0
  here h l =
      sum_cong F m (λ κ. F.mul (get_or after (j * m + κ) 0) (power F (get_or points (j * m + κ) 0) h)) (λ κ. F.mul (get_or new κ 0) (power F (get_or (part (j * m) (j * m + m) points) κ 0) h))
      (λ κ k. cc (at_new κ k, part_at m j points κ k))
      ∙ ap (λ k. sum F k (λ κ. F.mul (get_or new κ 0) (power F (get_or (part (j * m) (j * m + m) points) κ 0) h))) (sym (part_size m n j points lj lp))
      ∙ solved.sums h (let s = part_size m n j points lj lp in omega arith) ∙ part_at m j xs h l ∙ done.later (j * m + h) (omega arith)

  pub strips_solved : FilledIn F m (j + 1) points start (put_mid (j * m) (j * m + m - j * m) xs new)
  unfolding after
  strips_solved = record {
    below = λ p l. let s = next_strip m j in elim (cases_lt p (j * m)) [
      | inl k ↦ rw (at_old p k) (done.below p k)
      | inr k ↦ (let e : p ≡ j * m + (p - j * m) = omega arith in
          let b = solved.below (p - j * m) (omega arith) in
          subst (λ (z : ℕ). z < F.order) (sym (ap (λ k. get_or (put_mid (j * m) (j * m + m - j * m) xs new) k 0) e ∙ at_new (p - j * m) (omega arith))) b)
    ];
    sums = λ i h l lh. elim (cases_eq i j) [
      | inl q ↦ ap (λ k. column F m points (put_mid (j * m) (j * m + m - j * m) xs new) k h) q ∙ here h lh ∙ ap (λ k. get_or start (k * m + h) 0) (sym q)
      | inr d ↦ column_cong F m points (put_mid (j * m) (j * m + m - j * m) xs new) xs i h (λ κ k. at_old (i * m + κ) (in_strip m j i κ (omega arith) k)) ∙ done.sums i h (omega arith) lh
    ];
    later = λ p l. let s = next_strip m j in strips_later m j xs new room ln p l ∙ done.later p (omega arith);
  }
