use Rattle.std.proofs.Common.{◌≡◌, ℕ, ◌+◌, ◌*◌, List, length, ap, ◌∙◌, arith}
use Rattle.solver.specs.Sums.{moment}
use Rattle.solver.proofs.Parts.{part}
use Rattle.frame.specs.Tables.{column}
use Rattle.frame.proofs.Strips.{strip_end, part_size, strips_more, part_moment}
use Rattle.frame.proofs.table.column_sums.Goals as goal

pub loop-j-preserved : goal.loop-j-preserved
loop-j-preserved g c =
    let F = g.F.Field.ops in
    let m = c.args.m in
    let n = c.args.n in
    let j = c.loop-j.j in
    let locs = c.args.locators.now in
    let xs = c.args.array.now in
    let columns = c.loop-j.columns in
    let new = c.moments.new.out in
    let room = strip_end m n j (omega arith) in
    let long : length columns ≡ n * m = omega arith in
    let size : length new ≡ m = c.moments.auto.out ∙ part_size m n j columns (omega arith) long in
    record {
      sums = strips_more (column F m locs xs) m j columns new (omega arith) size
          (λ h l. c.moments.ensures.value h (omega arith) ∙ ap (λ (zs : List ℕ). moment F (part (j * m) (j * m + m) locs) zs h) c.copy_from_slice.ensures.after ∙ part_moment F m n j locs xs h (omega arith) c.requires.locators_size)
          c.loop-j.invariant.sums;
    }
