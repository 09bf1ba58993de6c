use Rattle.std.proofs.Common.{◌+◌, ◌-◌, ◌<◌, length, sym, refl, ◌∙◌, arith}
use borrow.Rule.Slice.PartMut.{put_mid}
use Rattle.std.proofs.lemmas.List.{length_push}
use Rattle.std.proofs.lemmas.Slice.Zip.{zip_turn}
use Rattle.solver.specs.Sums.{marked}
use Rattle.algebra.proofs.Counting.{count_room}
use Rattle.solver.proofs.Parts.{length_part}
use Rattle.solver.proofs.Gathers.{strike_true}
use Rattle.solver.proofs.row.strike.Goals as goal

pub slice_bounds-peel-count : goal.slice_bounds-peel-count
slice_bounds-peel-count g c =
    let here = zip_turn c.args.points.now c.args.gone.now _ _ _ c.next.new.self _ (cc) (cc) c.loop-point.yielded_by _ c.in-Some.is c.next.ensures.steps in
    let r = count_room (marked c.args.gone.now) (length c.loop-point.yielded) (length c.args.points.now) here.0 (sym (here.3 _) ∙ c.if-is_gone.true) in
    omega (arith, c.loop-point.invariant.0)

pub slice_bounds-peel-start : goal.slice_bounds-peel-start
slice_bounds-peel-start g c =
    let here = zip_turn c.args.points.now c.args.gone.now _ _ _ c.next.new.self _ (cc) (cc) c.loop-point.yielded_by _ c.in-Some.is c.next.ensures.steps in
    let r = count_room (marked c.args.gone.now) (length c.loop-point.yielded) (length c.args.points.now) here.0 (sym (here.3 _) ∙ c.if-is_gone.true) in
    omega (arith, c.loop-point.invariant.0)

pub overflow_add-k : goal.overflow_add-k
overflow_add-k g c =
    let here = zip_turn c.args.points.now c.args.gone.now _ _ _ c.next.new.self _ (cc) (cc) c.loop-point.yielded_by _ c.in-Some.is c.next.ensures.steps in
    let r = count_room (marked c.args.gone.now) (length c.loop-point.yielded) (length c.args.points.now) here.0 (sym (here.3 _) ∙ c.if-is_gone.true) in
    omega (arith, c.loop-point.invariant.0)

pub loop-point-preserved-then-is_gone : goal.loop-point-preserved-then-is_gone
loop-point-preserved-then-is_gone g c =
    let F = g.F.Field.ops in
    let k = c.loop-point.k in
    let values = c.loop-point.values in
    let ps = c.peel.new.values in
    let here = zip_turn c.args.points.now c.args.gone.now _ _ _ c.next.new.self _ (cc) (cc) c.loop-point.yielded_by _ c.in-Some.is c.next.ensures.steps in
    let mark = sym (here.3 _) ∙ c.if-is_gone.true in
    let r = count_room (marked c.args.gone.now) (length c.loop-point.yielded) (length c.args.points.now) here.0 mark in
    let room : k < length values = omega (arith, c.loop-point.invariant.0) in
    let peeled = rw (here.2 0) at c.peel.ensures in
    rw (length_push c.loop-point.yielded (c.in-Some.point, c.in-Some.is_gone))
    (strike_true F c.args.points.now c.args.gone.now c.args.values.now (length c.loop-point.yielded) k (k + 1) values (put_mid k (length values - k) values ps) ps c.loop-point.invariant mark
    room (omega arith) (c.peel.auto.values ∙ length_part k (length values) values (omega arith)) peeled refl refl)
