use Rattle.std.proofs.Common.{◌≡◌, ◌+◌, ◌*◌, length, get_or, ap, ◌∙◌, arith}
use Rattle.laws.specs.Ops.{power}
use Rattle.solver.proofs.Parts.{sum_cong}
use Rattle.frame.specs.Tables.{row_sum}
use Rattle.frame.proofs.Strips.{strip_end, part_size, strips_more}
use Rattle.frame.proofs.syndromes.sum_rows.Goals as goal

pub loop-h-preserved : goal.loop-h-preserved
loop-h-preserved g c =
    let F = g.F.Field.ops in
    let m = c.args.m in
    let k = c.args.c in
    let h = c.loop-h.h in
    let locs = c.args.locators.now in
    let columns = c.args.columns.now in
    let table = c.loop-h.table in
    let row = c.gather_row.new.row in
    let new = c.moments.new.out in
    let long : length table ≡ m * k = omega arith in
    let room = strip_end k m h (omega arith) in
    let size : length new ≡ k = c.moments.auto.out ∙ part_size k m h table (omega arith) long in
    let wide : length locs ≡ length row = omega arith in
    record {
      sums = strips_more (row_sum F m locs columns) k h table new (omega arith) size
          (λ i l. c.moments.ensures.value i (omega arith)
          ∙ sum_cong F (length locs) (λ j. F.mul (get_or row j 0) (power F (get_or locs j 0) i)) (λ j. F.mul (get_or columns (j * m + h) 0) (power F (get_or locs j 0) i))
          (λ j t. ap (λ x. F.mul x (power F (get_or locs j 0) i)) (c.gather_row.ensures.value j (omega arith))))
          c.loop-h.invariant.sums;
    }
