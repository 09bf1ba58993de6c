use Rattle.std.proofs.Common.{◌≡◌, ◌*◌, length, ◌∙◌, arith, length-take}
use Rattle.frame.specs.Tables.{FilledIn}
use Rattle.frame.proofs.Columns.{powers_below}
use Rattle.correction.proofs.Checks.{table_below}
use Rattle.correction.proofs.Strips.{found_below, restored}
use Rattle.candidates.proofs.Sites.{rule_at, small_at, strips_of, strips_site}
use Rattle.candidates.proofs.strips.restore.Goals as goal

pub decode_rows-requires-clause-codes : goal.decode_rows-requires-clause-codes
decode_rows-requires-clause-codes g c =
    let geo = c.args.site.now.geometry.now in
    table_below g.F.Field.ops g.met.F.Field.lawful geo.squares geo.strips geo.checks (rule_at g.F.Field.ops g.met.F.Field.lawful geo c.args.site.now.order) c.args.array.now c.args.table.now c.requires

pub solve_strips-requires-clause-locators_below : goal.solve_strips-requires-clause-locators_below
solve_strips-requires-clause-locators_below g c = powers_below g.F.Field.ops g.met.F.Field.lawful 0 0 g.F.Field.ops.generator c.first.result.now c.first.ensures.powers

pub solve_strips-requires-clause-columns_below : goal.solve_strips-requires-clause-columns_below
solve_strips-requires-clause-columns_below g c =
    let F = g.F.Field.ops in
    let L = g.met.F.Field.lawful in
    let site = c.args.site.now in
    let geo = site.geometry.now in
    let small = small_at F L geo site.order in
    let at = strips_site F geo.squares geo.strips geo.checks (rule_at F L geo site.order) site.gone.now site.marks site.room in
    found_below F geo.squares geo.strips geo.checks (strips_of F geo.strips) site.gone.now at c.args.table.now c.decode_rows.new.columns
    (c.decode_rows.auto.columns ∙ simp length-take (omega (arith, small.all, c.frame_size-size.ensures)))
    (c.decode_rows.ensures (strips_of F geo.strips) at.size at.powers)

pub returns-clause-frame : goal.returns-clause-frame
returns-clause-frame g c =
    let F = g.F.Field.ops in
    let L = g.met.F.Field.lawful in
    let site = c.args.site.now in
    let geo = site.geometry.now in
    let small = small_at F L geo site.order in
    let at = strips_site F geo.squares geo.strips geo.checks (rule_at F L geo site.order) site.gone.now site.marks site.room in
    let columns = c.decode_rows.new.columns in
    let solved = c.solve_strips.new.columns in
    let size : length columns ≡ geo.strips * geo.squares = c.decode_rows.auto.columns ∙ simp length-take (omega (arith, small.all, c.frame_size-size.ensures)) in
    let filled : FilledIn F geo.squares geo.strips c.first.result.now columns solved = rw (← c.squares-m.ensures, ← c.strips-n.ensures) c.solve_strips.ensures.value in
    λ wrong ys near. restored F L geo.squares geo.strips geo.checks (strips_of F geo.strips) site.gone.now at c.first.result.now c.first.ensures.powers (c.first.ensures.size ∙ c.frame_size-size.ensures)
    c.args.array.now c.args.table.now c.requires columns solved size (c.solve_strips.auto.columns ∙ size) (c.decode_rows.ensures (strips_of F geo.strips) at.size at.powers) filled
    wrong ys near c.subtract.new.array (c.subtract.auto.array ∙ c.requires.size) (λ p l. c.subtract.ensures p (omega (arith, c.requires.size)))
