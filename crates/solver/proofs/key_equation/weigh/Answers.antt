use Rattle.std.proofs.Common.{length, zero-add, add-one}
use Rattle.std.proofs.lemmas.List.{length_push}
use Rattle.std.proofs.lemmas.Slice.Zip.{zip_turn}
use Rattle.solver.proofs.key_equation.weigh.Goals as goal

pub loop-w-preserved : goal.loop-w-preserved
loop-w-preserved g c =
    let k = length c.loop-w.yielded in
    let here = zip_turn c.args.ws.now c.args.xs.now _ _ _ c.next.new.self _ (cc) (cc) c.loop-w.yielded_by _ c.in-Some.is c.next.ensures.steps in
    rw (length_push c.loop-w.yielded (c.in-Some.w, c.in-Some.x), add-one k) (cc (c.add-all.ensures, c.mul.ensures, c.loop-w.invariant, here.2 0, here.3 0, zero-add k))
