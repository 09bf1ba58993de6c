use Rattle.std.proofs.Common.{◌+◌, length, set, sym, refl, ap, ◌∙◌, arith}
use Rattle.std.proofs.lemmas.List.{length_push}
use Rattle.std.proofs.lemmas.Slice.Zip.{zip_turn}
use Rattle.solver.specs.Sums.{marked}
use Rattle.algebra.proofs.Counting.{count_room}
use Rattle.solver.proofs.Gathers.{gather_true}
use Rattle.solver.proofs.row.gather.Goals as goal

pub bounds-out-k : goal.bounds-out-k
bounds-out-k c =
    let here = zip_turn c.args.points.now c.args.mask.now _ _ _ c.next.new.self _ (cc) (cc) c.loop-point.yielded_by _ c.in-Some.is c.next.ensures.steps in
    let r = count_room (marked c.args.mask.now) (length c.loop-point.yielded) (length c.args.points.now) here.0 (sym (here.3 _) ∙ c.if-mark.true) in
    omega (arith, c.loop-point.invariant.0)

pub overflow_add-k : goal.overflow_add-k
overflow_add-k c =
    let here = zip_turn c.args.points.now c.args.mask.now _ _ _ c.next.new.self _ (cc) (cc) c.loop-point.yielded_by _ c.in-Some.is c.next.ensures.steps in
    let r = count_room (marked c.args.mask.now) (length c.loop-point.yielded) (length c.args.points.now) here.0 (sym (here.3 _) ∙ c.if-mark.true) in
    omega (arith, c.loop-point.invariant.0)

pub loop-point-preserved-then-mark : goal.loop-point-preserved-then-mark
loop-point-preserved-then-mark c =
    let k = c.loop-point.k in
    let out = c.loop-point.out in
    let here = zip_turn c.args.points.now c.args.mask.now _ _ _ c.next.new.self _ (cc) (cc) c.loop-point.yielded_by _ c.in-Some.is c.next.ensures.steps in
    let mark = sym (here.3 _) ∙ c.if-mark.true in
    let r = count_room (marked c.args.mask.now) (length c.loop-point.yielded) (length c.args.points.now) here.0 mark in
    rw (length_push c.loop-point.yielded (c.in-Some.point, c.in-Some.mark))
    (gather_true c.args.points.now (marked c.args.mask.now) (length c.loop-point.yielded) k (k + 1) out (set out k c.in-Some.point.now) c.loop-point.invariant mark
    (omega (arith, c.loop-point.invariant.0)) (ap (λ v. set out k v) (here.2 0)) refl)
