use Rattle.std.proofs.Common.{◌≡◌, ◌+◌, length, take, ◌∙◌, arith}
use Rattle.std.proofs.lemmas.Grind.{common_steps}
use Rattle.solver.proofs.Kernels.{weighed_part, start_codes, keep_codes, grow_codes, swap_codes, found_kernel}
use Rattle.solver.proofs.key_equation.kernel.Goals as goal

pub loop-r-init : goal.loop-r-init
loop-r-init g c = start_codes g.F.Field.ops g.met.F.Field.lawful c.args.t c.args.values.now c.requires.1.1

pub loop-r-preserved-then-d-eq0 : goal.loop-r-preserved-then-d-eq0
loop-r-preserved-then-d-eq0 g c =
    let F = g.F.Field.ops in
    let step = c.loop-r in
    let bound = step.invariant.stage.L_less in
    let front : length (take (step.l + 1) step.ws) ≡ step.l + 1 = grind (arith, common_steps) in
    let weighs = c.weigh-d.ensures ∙ weighed_part F (step.l + 1) step.r step.ws c.args.values.now front (omega arith) in
    keep_codes F g.met.F.Field.lawful c.args.t step.l step.r c.args.values.now step.ws step.gs step.b step.invariant c.weigh-d.result weighs (omega arith) (omega arith)

pub loop-r-preserved-then-r-l : goal.loop-r-preserved-then-r-l
loop-r-preserved-then-r-l g c =
    let F = g.F.Field.ops in
    let step = c.loop-r in
    let bound = step.invariant.stage.L_less in
    let front : length (take (step.l + 1) step.ws) ≡ step.l + 1 = grind (arith, common_steps) in
    let weighs = c.weigh-d.ensures ∙ weighed_part F (step.l + 1) step.r step.ws c.args.values.now front (omega arith) in
    grow_codes F g.met.F.Field.lawful c.args.t step.l step.r c.args.values.now step.ws step.gs step.b step.invariant c.weigh-d.result weighs
    (omega arith) c.mul.result c.mul.ensures c.combine-ws.result c.combine-ws.ensures

pub loop-r-preserved : goal.loop-r-preserved
loop-r-preserved g c =
    let F = g.F.Field.ops in
    let step = c.loop-r in
    let bound = step.invariant.stage.L_less in
    let front : length (take (step.l + 1) step.ws) ≡ step.l + 1 = grind (arith, common_steps) in
    let weighs = c.weigh-d.ensures ∙ weighed_part F (step.l + 1) step.r step.ws c.args.values.now front (omega arith) in
    swap_codes F g.met.F.Field.lawful c.args.t step.l step.r c.args.values.now step.ws step.gs step.b step.invariant c.weigh-d.result weighs
    (omega arith) (omega arith) (λ e. omega arith) c.mul-else-r-l.result c.mul-else-r-l.ensures c.inv-b.result c.inv-b.ensures c.combine-next.result c.combine-next.ensures

pub returns : goal.returns
returns g c =
    let step = c.loop-r in
    found_kernel g.F.Field.ops g.met.F.Field.lawful c.args.t step.l step.r c.args.values.now step.ws step.gs step.b step.invariant (omega arith)
