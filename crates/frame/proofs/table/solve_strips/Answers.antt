use Rattle.std.proofs.Common.{◌≡◌, ◌*◌, length, ◌∙◌, arith}
use Rattle.frame.proofs.Strips.{part_size}
use Rattle.frame.proofs.Solves.{strips_solved}
use Rattle.frame.proofs.table.solve_strips.Goals as goal

pub loop-j-preserved : goal.loop-j-preserved
loop-j-preserved g c =
    let F = g.F.Field.ops in
    let m = c.args.m in
    let n = c.args.n in
    let j = c.loop-j.j in
    let columns = c.loop-j.columns in
    let long : length columns ≡ n * m = omega arith in
    strips_solved F m n j c.args.locators.now c.args.columns.now columns c.solve.new.values (omega arith) c.requires.locators_size long
    (c.solve.auto.values ∙ part_size m n j columns (omega arith) long) c.solve.ensures c.loop-j.invariant
