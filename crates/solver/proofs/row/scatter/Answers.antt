use Rattle.std.proofs.Common.{length, arith}
use Rattle.solver.specs.Sums.{marked}
use Rattle.algebra.proofs.Counting.{count_room}
use Rattle.solver.proofs.row.scatter.Goals as goal

pub bounds-values-k : goal.bounds-values-k
bounds-values-k c = let r = count_room (marked c.args.mask.now) c.loop-j.j (length c.args.mask.now) (omega arith) c.if-mask-j.true in omega (arith, c.loop-j.invariant.0)

pub overflow_add-k : goal.overflow_add-k
overflow_add-k c = let r = count_room (marked c.args.mask.now) c.loop-j.j (length c.args.mask.now) (omega arith) c.if-mask-j.true in omega (arith, c.loop-j.invariant.0)
