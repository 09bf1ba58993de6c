use Rattle.std.proofs.Common.{◌≡◌, ℕ, suc, ◌-◌, ◌<◌, length, get_or, sym, ap, ◌∙◌, one-add, arith, rules}
use Rattle.laws.specs.Ops.{power, sum}
use borrow.Rule.Slice.PartMut.{put_mid}
use Rattle.refusal.specs.Codes.{Below}
use Rattle.laws.specs.Ops.{less}
use Rattle.solver.specs.Sums.{found}
use Rattle.solver.proofs.Parts.{part, length_part, get_d_part, put_before, put_in, sum_cong}
use Rattle.solver.proofs.Solving.{step_below, step_moment, next}
use Rattle.solver.proofs.vandermonde.+solve.Goals as goal

get_or_rest : (xs : mathlib.Core.List.List ℕ) (k : ℕ) → k < length xs - 1 → get_or (part 1 (length xs) xs) k 0 ≡ get_or xs (suc k) 0
get_or_rest xs k l = get_d_part 1 (length xs) xs k l ∙ ap (λ q. get_or xs q 0) (one-add k)

pub solve-requires : goal.solve-requires
solve-requires g t c κs within =
    let xs = c.args.points.now in
    let ps = c.peel.new.values in
    let lx = length_part 1 (length xs) xs (omega arith) in
    let lp = length_part 1 (length ps) ps (omega arith) in
    let same : length ps ≡ length xs = omega arith in (
      search rules,
      (
        within,
        record {
          size = omega arith;
          points_below = λ i l. rw (get_or_rest xs i (omega arith)) (c.requires.points_below (suc i) (omega arith));
          values_below = λ i l. rw (get_or_rest ps i (omega arith) ∙ c.peel.ensures.next i (omega arith)) (g.met.F.Field.lawful.add_code _ _);
          apart = λ i j li lj e. let s = c.requires.apart (suc i) (suc j) (omega arith) (omega arith) (sym (get_or_rest xs i (omega arith)) ∙ e ∙ get_or_rest xs j (omega arith)) in omega arith;
        },
      ),
    )

pub returns-then-not-is_empty : goal.returns-then-not-is_empty
returns-then-not-is_empty g t c =
    let F = g.F.Field.ops in
    let L = g.met.F.Field.lawful in
    let points = c.args.points.now in
    let vs = c.args.values.now in
    let ps = c.peel.new.values in
    let zs = c.solve.new.values in
    let xs = c.unpeel.new.values in
    let n = length points - 1 in
    let some : 0 < length points = search rules in
    let size : length points ≡ suc n = omega arith in
    let lx : length xs ≡ suc n = omega arith in
    let lv : length vs ≡ suc n = omega arith in
    let lp : length ps ≡ suc n = omega arith in
    let lm = length_part 1 (length ps) ps (omega arith) in
    let lz : length zs ≡ n = omega (arith, c.solve.auto.values) in
    let bz = c.solve.ensures.below in
    let part_is : length (part 1 (length points) points) ≡ n = length_part 1 (length points) points (omega arith) in
    let mid : (k : ℕ) → k < n → get_or (put_mid 1 (length ps - 1) ps zs) (suc k) 0 ≡ get_or zs k 0 = λ k l. ap (λ q. get_or (put_mid 1 (length ps - 1) ps zs) q 0) (sym (one-add k)) ∙ put_in 1 (length ps - 1) ps zs k (omega arith) (omega arith) in
    let nexts : (k : ℕ) → k < n → found F points (put_mid 1 (length ps - 1) ps zs) k ≡ next F L n points vs ps zs xs size c.requires.points_below c.requires.values_below bz k = λ k l. ap (λ q. F.mul q (F.inv (less F (get_or points (suc k) 0) (get_or points 0 0)))) (mid k l) in
    let rest : (k : ℕ) → k < n → get_or xs (suc k) 0 ≡ next F L n points vs ps zs xs size c.requires.points_below c.requires.values_below bz k = λ k l. c.unpeel.ensures.rest k (omega arith) ∙ nexts k l in
    let head = c.unpeel.ensures.first
    ∙ cc (put_before 1 (length ps - 1) ps zs 0 (omega arith) (omega arith), sum_cong F n (found F points (put_mid 1 (length ps - 1) ps zs)) (next F L n points vs ps zs xs size c.requires.points_below c.requires.values_below bz) nexts) in
    let bx : Below F.order xs = λ i l. step_below F L n points vs ps zs xs size c.requires.points_below c.requires.values_below bz rest head i (omega arith) in
    record {
      below = bx;
      sums = λ i l. ap (λ k. sum F k (λ t. F.mul (get_or xs t 0) (power F (get_or points t 0) i))) size
          ∙ step_moment F L n points vs ps zs xs size c.requires.points_below c.requires.values_below bz rest head bx lv c.requires.apart c.peel.ensures
          (λ j k. sum_cong F n (λ t. F.mul (get_or zs t 0) (power F (get_or points (suc t) 0) j)) (λ t. F.mul (get_or zs t 0) (power F (get_or (part 1 (length points) points) t 0) j)) (λ t m. ap (λ q. F.mul (get_or zs t 0) (power F q j)) (sym (get_or_rest points t (omega arith))))
          ∙ ap (λ k. sum F k (λ t. F.mul (get_or zs t 0) (power F (get_or (part 1 (length points) points) t 0) j))) (sym part_is)
          ∙ c.solve.ensures.sums j (omega arith) ∙ get_or_rest ps j (omega arith)) i (omega arith);
    }
