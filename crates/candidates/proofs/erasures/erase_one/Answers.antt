use Rattle.std.proofs.Common.{◌/◌, ◌∙◌, arith}
use Rattle.algebra.specs.Frames.{strip_locator, square_locator}
use Rattle.solver.specs.Sums.{Taken}
use Rattle.correction.proofs.Checks.{table_below, taken_out}
use Rattle.candidates.proofs.Sites.{rule_at, small_at, strip_there, nearer_at}
use Rattle.candidates.proofs.erasures.erase_one.Goals as goal

pub error_at-error-requires-clause-codes : goal.error_at-error-requires-clause-codes
error_at-error-requires-clause-codes g c =
    let geo = c.args.site.now.geometry.now in
    table_below g.F.Field.ops g.met.F.Field.lawful geo.squares geo.strips geo.checks (rule_at g.F.Field.ops g.met.F.Field.lawful geo c.args.site.now.order) c.args.array.now c.args.table.now c.requires.held

pub bounds-array-square : goal.bounds-array-square
bounds-array-square g c = omega (arith, c.requires.chosen.places 0 (omega arith), c.requires.held.size)

pub locator-requires : goal.locator-requires
locator-requires g c =
    let geo = c.args.site.now.geometry.now in
    let small = small_at g.F.Field.ops g.met.F.Field.lawful geo c.args.site.now.order in
    rw c.squares-m.ensures (omega (arith, small.strips, strip_there geo.squares geo.strips c.args.square c.args.ahead.now geo.rule.0 c.requires.chosen))

pub locator-requires-2 : goal.locator-requires-2
locator-requires-2 g c =
    let small = small_at g.F.Field.ops g.met.F.Field.lawful c.args.site.now.geometry.now c.args.site.now.order in
    omega (arith, c.requires.chosen.places 0 (omega arith), small.all)

pub returns-clause-held : goal.returns-clause-held
returns-clause-held g c =
    let F = g.F.Field.ops in
    let L = g.met.F.Field.lawful in
    let geo = c.args.site.now.geometry.now in
    let s = c.args.square in
    let taken : Taken F c.error_at-error.result (strip_locator F (s / geo.squares)) (square_locator F s) geo.checks geo.squares c.args.table.now c.take_out.new.table
    = rw (← c.squares-m.ensures, ← c.checks.ensures, ← c.locator.ensures, ← c.locator-2.ensures) c.take_out.ensures in
    rw c.sub.ensures (taken_out F L geo.squares geo.strips geo.checks (rule_at F L geo c.args.site.now.order) c.args.array.now c.args.table.now c.take_out.new.table s c.error_at-error.result c.requires.held
    (c.requires.chosen.places 0 (omega arith)) c.error_at-error.ensures.below (c.take_out.auto.table ∙ c.requires.held.table_size) taken)

pub returns-clause-nearer : goal.returns-clause-nearer
returns-clause-nearer g c =
    let F = g.F.Field.ops in
    let L = g.met.F.Field.lawful in
    let site = c.args.site.now in
    let geo = site.geometry.now in
    λ wrong ys near. rw c.sub.ensures (nearer_at F L geo.squares geo.strips geo.checks (rule_at F L geo site.order) site.gone.now site.marks site.room c.args.square c.args.ahead.now c.requires.chosen
    c.args.array.now ys c.args.table.now c.error_at-error.result c.requires.held wrong near (c.error_at-error.ensures.value c.args.array.now c.requires.held wrong ys near))
