use Rattle.std.proofs.Common.{◌≡◌, ℕ, ◌+◌, ◌-◌, ◌/◌, ◌<◌, ◌≤◌, List, length, get_or, take, ap, ◌∙◌, add-one, arith}
use Rattle.std.proofs.lemmas.Grind.{common_steps}
use Rattle.refusal.specs.Codes.{Below}
use Rattle.solver.specs.Sums.{struck}
use Rattle.solver.proofs.Parts.{part, length_part, get_d_part}
use Rattle.solver.proofs.Gathers.{choice_front}
use Rattle.solver.proofs.Rowing.{located_codes, struck_code}
use Rattle.solver.proofs.row.locate.Goals as goal

pub kernel-ws-requires : goal.kernel-ws-requires
kernel-ws-requires g c =
    let row = c.requires.0 in
    let vs = c.copy_from_slice.new.self in
    let ps = c.strike-k.new.values in
    let k = c.strike-k.result in
    let size : length ps ≡ length vs = c.strike-k.auto.values in
    let same = ap length c.copy_from_slice.ensures.after in
    let few : k ≤ length ps = omega (arith, row.room, c.strike-k.ensures.value) in
    let lp = length_part k (length ps) ps (omega arith) in
    let bv : Below g.F.Field.ops.order vs = λ i l. rw c.copy_from_slice.ensures.after (row.sums_below i (omega arith)) in (
      omega (arith, row.short),
      (
        omega arith,
        λ i l. rw (get_d_part k (length ps) ps i (omega arith) ∙ c.strike-k.ensures.rest i (omega arith)) (struck_code g.F.Field.ops g.met.F.Field.lawful c.args.points.now c.args.gone.now vs bv (length c.args.points.now) i),
      ),
    )

pub returns : goal.returns
returns g c =
    let F = g.F.Field.ops in
    let L = g.met.F.Field.lawful in
    let row = c.requires.0 in
    let points = c.args.points.now in
    let sums = c.args.sums.now in
    let gone = c.args.gone.now in
    let vs = c.copy_from_slice.new.self in
    let ps = c.strike-k.new.values in
    let ws = c.kernel-ws.result in
    let k = c.strike-k.result in
    let t = (length sums - k) / 2 in
    let size : length ps ≡ length vs = c.strike-k.auto.values in
    let same = ap length c.copy_from_slice.ensures.after in
    let few : k ≤ length ps = omega (arith, row.room, c.strike-k.ensures.value) in
    let short = row.short in
    let lp = length_part k (length ps) ps (omega arith) in
    let lw : length (take (t + 1) ws) ≡ t + 1 = grind (arith, common_steps) in
    let bv : Below F.order vs = λ i l. rw c.copy_from_slice.ensures.after (row.sums_below i (omega arith)) in
    let S_is : (i : ℕ) → i < length sums - k → get_or (part k (length ps) ps) i 0 ≡ struck F points gone vs (length points) i =
    λ i l. get_d_part k (length ps) ps i (omega arith) ∙ c.strike-k.ensures.rest i (omega arith) in
    located_codes F L points sums gone row vs (part k (length ps) ps) ws c.choose.new.mask t
    bv (λ i l. ap (λ (zs : List ℕ). get_or zs i 0) c.copy_from_slice.ensures.after) (omega (arith, c.strike-k.ensures.value)) (omega (arith, c.strike-k.ensures.value))
    (λ i l. rw (S_is i (omega arith)) (struck_code F L points gone vs bv (length points) i))
    (λ i l. S_is i (omega (arith, c.strike-k.ensures.value)))
    c.kernel-ws.ensures (λ j l. rw (add-one t) at (choice_front F points gone ws (t + 1) c.choose.new.mask j lw (c.choose.ensures j l)))
