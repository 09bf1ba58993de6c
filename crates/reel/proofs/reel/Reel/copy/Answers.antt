use Rattle.std.proofs.Common.{◌≡◌, ◌<◌, true, Ok, Err, refl, ap, ◌∙◌, subst, arith, rules}
use Rattle.std.proofs.lemmas.Result.{err_from_is_err_and}
use Rattle.refusal.proofs.Causes.{ok_not_err, same_err}
use Rattle.kept.specs.Calls.{Moves}
use Rattle.kept.proofs.Steps.{moves_done, moves_worn, copies_done}
use Rattle.reel.specs.Calls.{code_on, Ready}
use Rattle.reel.proofs.Loaded.{ready_does}
use Rattle.reel.proofs.reel.Reel.copy.Goals as goal

pub returns-in_err-counts-clause-frame : goal.returns-in_err-counts-clause-frame
returns-in_err-counts-clause-frame g c =
    let F = g.F.Field.ops in
    let geo = c.args.self.now.geometry in
    let K = code_on F geo in
    let v = g.M.Medium.shows c.args.self.now.medium in
    let u = g.M.Medium.shows c.is_open.new.self in
    let w = g.M.Medium.shows c.find.new.self.medium in
    let from = c.args.source in
    let to = c.args.target in
    let r = c.from_residual-in_err-counts.result in
    let p = err_from_is_err_and r c.from_residual-in_err-counts.ensures.1 in
    let was = c.in_err-counts.was in
    let moves : Moves K u from to r w =
    moves_worn K u w from to c.find.new.found c.find.result r c.find.ensures.same c.find.ensures.frame was (λ k q. p.1 ∙ ap Err (p.2 ∙ same_err c.find.result was q)) in
    let ready : Ready F geo v = search rules in
    let there : to < v.frames = search rules in
    let unlocked : v.unlocked to ≡ true = search rules in
    ready_does F geo v _ _ r ready (copies_done K v w from to r (omega arith) there unlocked (subst (λ t. Moves K t from to r w) c.is_open.ensures.same moves))

pub returns-clause-frame : goal.returns-clause-frame
returns-clause-frame g c =
    let F = g.F.Field.ops in
    let geo = c.args.self.now.geometry in
    let K = code_on F geo in
    let v = g.M.Medium.shows c.args.self.now.medium in
    let u = g.M.Medium.shows c.is_open.new.self in
    let found = g.M.Medium.shows c.find.new.self.medium in
    let w = g.M.Medium.shows c.put.new.medium in
    let from = c.args.source in
    let to = c.args.target in
    let counts = c.in_ok-counts.counts in
    let moves : Moves K u from to (Ok counts) w =
    moves_done K u found w from to c.find.new.found c.find.result c.put.result (Ok counts) counts
    c.find.ensures.frame c.in_ok-counts.was c.find.ensures.same c.put.ensures.frame (λ k q. absurd (ok_not_err c.put.result c.in_ok-put.was q)) (λ _. refl) in
    let ready : Ready F geo v = search rules in
    let there : to < v.frames = search rules in
    let unlocked : v.unlocked to ≡ true = search rules in
    ready_does F geo v _ _ (Ok counts) ready (copies_done K v w from to (Ok counts) (omega arith) there unlocked (subst (λ t. Moves K t from to (Ok counts) w) c.is_open.ensures.same moves))
