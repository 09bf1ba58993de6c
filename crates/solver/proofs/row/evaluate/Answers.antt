use Rattle.std.proofs.Common.{◌≡◌, suc, ◌+◌, ◌-◌, ◌<◌, length, reverse, ◌∙◌, add-one, arith}
use Rattle.std.proofs.lemmas.List.{get_or_read, length_push, length-reverse, get_or-reverse}
use Rattle.std.proofs.lemmas.Iterator.Adapters.{YieldsList-from_rev_slice}
use Rattle.std.proofs.lemmas.Iterator.Consumers.{YieldsList-turn}
use Rattle.solver.proofs.row.evaluate.Goals as goal

pub loop-w-preserved : goal.loop-w-preserved
loop-w-preserved g c =
    let ws = c.args.ws.now in
    let n = length ws in
    let k = length c.loop-w.yielded in
    let here = YieldsList-turn (YieldsList-from_rev_slice ws (cc)) c.loop-w.yielded _ c.loop-w.yielded_by _ c.next.new.self c.in-Some.w c.in-Some.is c.next.ensures.steps in
    let long : k < n = omega (arith, here.0, length-reverse ws) in
    let item = get_or_read (reverse ws) k c.in-Some.w.now here.0 here.1 0 ∙ get_or-reverse ws k 0 long in
    let place : n - 1 - k ≡ n - (k + 1) = omega arith in
    let back : suc (n - (k + 1)) ≡ n - k = omega arith in
    rw (length_push c.loop-w.yielded c.in-Some.w, add-one k) (cc (c.add-all.ensures, c.mul.ensures, c.loop-w.invariant, item, place, back, add-one k))
