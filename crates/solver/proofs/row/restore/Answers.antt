use Rattle.std.proofs.Common.{◌≡◌, ℕ, ◌<◌, ◌≤◌, true, false, cond, List, length, get_or, take, ap, ◌∙◌, inl, inr, arith, get_or-take}
use Rattle.std.proofs.lemmas.Bool.{cases_Bool}
use Rattle.std.proofs.lemmas.List.{length-take-le}
use Rattle.algebra.specs.Showings.{count}
use Rattle.algebra.proofs.Codes.{zero_code}
use Rattle.solver.specs.Sums.{marked}
use Rattle.algebra.proofs.Counting.{count_room}
use Rattle.solver.proofs.Rowing.{chosen_below, chosen_apart, scattered_moment}
use Rattle.solver.proofs.row.restore.Goals as goal

pub solve-requires : goal.solve-requires
solve-requires g c =
    let F = g.F.Field.ops in
    let L = g.met.F.Field.lawful in
    let row = c.requires.row in
    let p = marked c.args.mask.now in
    let points = c.args.points.now in
    let r = c.gather-r.result in
    let ch = c.gather-r.new.out in
    let copied = c.copy_from_slice.ensures.after in
    let few : r ≤ length c.args.sums.now = omega (arith, row.room, c.gather-r.ensures.value) in
    let lc : length (take r ch) ≡ r = length-take-le r ch (omega arith) in
    let lv : length c.copy_from_slice.new.self ≡ r = ap length copied ∙ length-take-le r c.args.sums.now few in
    let gathered : (j : ℕ) → j < length points → p j ≡ true → get_or (take r ch) (count j p) 0 ≡ get_or points j 0 =
    λ j l e. get_or-take r ch (count j p) 0 (omega (arith, count_room p j (length points) l e, c.gather-r.ensures.value)) ∙ c.gather-r.ensures.picked j l e in
    record {
      size = omega arith;
      points_below = chosen_below F L points p row.points_below row.apart (take r ch) (omega (arith, c.gather-r.ensures.value)) gathered;
      values_below = λ i l. rw (ap (λ (zs : List ℕ). get_or zs i 0) copied ∙ get_or-take r c.args.sums.now i 0 (omega arith)) (row.sums_below i (omega arith));
      apart = chosen_apart F L points p row.points_below row.apart (take r ch) (omega (arith, c.gather-r.ensures.value)) gathered;
    }

pub returns : goal.returns
returns g c =
    let F = g.F.Field.ops in
    let L = g.met.F.Field.lawful in
    let row = c.requires.row in
    let size = row.size in
    let p = marked c.args.mask.now in
    let points = c.args.points.now in
    let r = c.gather-r.result in
    let ch = c.gather-r.new.out in
    let zs = c.solve.new.values in
    let out = c.scatter.new.out in
    let copied = c.copy_from_slice.ensures.after in
    let r_is = c.gather-r.ensures.value in
    let few : r ≤ length c.args.sums.now = omega (arith, row.room) in
    let lc : length (take r ch) ≡ r = length-take-le r ch (omega arith) in
    let lv : length c.copy_from_slice.new.self ≡ r = ap length copied ∙ length-take-le r c.args.sums.now few in
    let lo : length out ≡ length points = c.scatter.auto.out ∙ c.requires.size in
    let lz : length zs ≡ r = c.solve.auto.values ∙ lv in
    let gathered : (j : ℕ) → j < length points → p j ≡ true → get_or (take r ch) (count j p) 0 ≡ get_or points j 0 =
    λ j l e. get_or-take r ch (count j p) 0 (omega (arith, count_room p j (length points) l e)) ∙ c.gather-r.ensures.picked j l e in
    let scattered : (j : ℕ) → j < length points → get_or out j 0 ≡ cond (p j) (get_or zs (count j p) 0) 0 = λ j l. c.scatter.ensures j (omega arith) in
    let at_true : (j : ℕ) → j < length points → p j ≡ true → get_or out j 0 ≡ get_or zs (count j p) 0 =
    λ j l e. scattered j l ∙ ap (λ b. cond b (get_or zs (count j p) 0) 0) e in
    let at_false : (j : ℕ) → j < length points → p j ≡ false → get_or out j 0 ≡ 0 =
    λ j l e. scattered j l ∙ ap (λ b. cond b (get_or zs (count j p) 0) 0) e in
    record {
      below = λ j l. elim (cases_Bool (p j)) [
        | inl e ↦ rw (at_true j (omega arith) e) (c.solve.ensures.below (count j p) (omega (arith, count_room p j (length points) (omega arith) e)))
        | inr e ↦ rw (at_false j (omega arith) e) (zero_code F L)
      ];
      zeros = at_false;
      has = λ i l. scattered_moment F L points p row.points_below row.apart (take r ch) (omega arith) gathered zs out scattered i
          ∙ c.solve.ensures.sums i (omega arith) ∙ ap (λ (vs : List ℕ). get_or vs i 0) copied ∙ get_or-take r c.args.sums.now i 0 (omega arith);
    }
