use Rattle.std.proofs.Common.{length, refl, arith}
use Rattle.frame.proofs.Strips.{in_strip}
use Rattle.frame.proofs.Rows.{scatter_more}
use Rattle.frame.proofs.table.scatter_row.Goals as goal

pub loop-j-preserved : goal.loop-j-preserved
loop-j-preserved c =
    let e = in_strip c.args.m (length c.args.row.now) c.loop-j.j c.args.h (omega arith) c.requires.within in
    scatter_more c.args.m c.args.h c.loop-j.j c.args.row.now c.args.columns.now c.loop-j.columns _ c.requires.within (omega (arith, c.requires.size)) refl c.loop-j.invariant
