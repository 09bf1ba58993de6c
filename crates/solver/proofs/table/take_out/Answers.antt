use Rattle.std.proofs.Common.{suc, ◌+◌, ◌*◌, ◌≤◌, mul-le-mul_right, suc-mul, add-one, arith}
use Rattle.solver.proofs.Parts.{length_part}
use Rattle.solver.proofs.Tables.{table_more}
use Rattle.solver.proofs.table.take_out.Goals as goal

pub loop-h-preserved : goal.loop-h-preserved
loop-h-preserved g c =
    let F = g.F.Field.ops in
    let h = c.loop-h.h in
    let w = c.args.c in
    let table = c.loop-h.table in
    let s : suc h ≤ c.args.m = omega arith in
    let up = mul-le-mul_right w s in
    let e = suc-mul h w in
    let lp = length_part (h * w) (h * w + w) table (omega arith) in (
      rw (add-one h) (cc (c.mul-p.ensures, c.loop-h.invariant.0)),
      table_more F c.args.x c.args.a c.args.b w h c.mul.result c.args.table.now table c.take_row.new.row c.loop-h.invariant.1 (omega arith)
          (omega (arith, c.take_row.auto.row)) (cc (c.mul.ensures, c.loop-h.invariant.0)) c.take_row.ensures,
    )
