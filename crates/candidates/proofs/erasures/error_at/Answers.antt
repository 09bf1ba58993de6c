use Rattle.std.proofs.Common.{◌≡◌, length, ◌∙◌, arith, length-take}
use Rattle.std.proofs.lemmas.Grind.{common_steps}
use Rattle.candidates.proofs.Sites as sites
use Rattle.candidates.proofs.Sites.{small_at, site_at, strip_there, row_at}
use Rattle.candidates.proofs.erasures.error_at.Goals as goal

pub bounds-erased-strip : goal.bounds-erased-strip
bounds-erased-strip g c =
    let site = c.args.site.now in
    let there = strip_there site.geometry.now.squares site.geometry.now.strips c.args.square c.args.ahead.now site.geometry.now.rule.0 c.requires.chosen in
    rw (c.squares.ensures, c.copy_from_slice.ensures.after, site.marks) there

pub row_errors-requires : goal.row_errors-requires
row_errors-requires g c =
    let F = g.F.Field.ops in
    let L = g.met.F.Field.lawful in
    let site = c.args.site.now in
    let geo = site.geometry.now in
    let strips = c.first.result.now in
    let sums = c.peel_rows.new.sums in
    let small = small_at F L geo site.order in
    let size : length sums ≡ geo.checks = c.peel_rows.auto.sums ∙ (grind (arith, common_steps)) in
    let count : length c.locate.new.points ≡ length c.args.ahead.now = grind (arith, common_steps) in
    let at = site_at F L geo site.order strips site.gone.now (c.first.ensures.size ∙ c.strips-n.ensures) c.first.ensures.powers site.marks site.room in (
      rw (c.squares.ensures, c.copy_from_slice.ensures.after) (row_at F L geo.squares geo.strips geo.checks strips site.gone.now at c.args.square c.args.ahead.now c.requires.chosen
          c.locate.new.points count c.locate.ensures c.args.table.now sums c.requires.codes size (λ i l. rw (← c.checks-c.ensures) (c.peel_rows.ensures i (omega (arith, c.peel_rows.auto.sums))))),
      simp length-take (omega (arith, small.strips, c.strips-n.ensures)),
    )

pub bounds-row-strip : goal.bounds-row-strip
bounds-row-strip g c =
    let site = c.args.site.now in
    let small = small_at g.F.Field.ops g.met.F.Field.lawful site.geometry.now site.order in
    let there = strip_there site.geometry.now.squares site.geometry.now.strips c.args.square c.args.ahead.now site.geometry.now.rule.0 c.requires.chosen in
    rw (c.squares.ensures, c.row_errors.auto.out) (simp length-take (omega (arith, small.strips, c.strips-n.ensures)))

pub locator-requires : goal.locator-requires
locator-requires g c =
    let site = c.args.site.now in
    let small = small_at g.F.Field.ops g.met.F.Field.lawful site.geometry.now site.order in
    omega (arith, c.requires.chosen.places 0 (omega arith), small.all)

pub returns-clause-value : goal.returns-clause-value
returns-clause-value g c =
    let F = g.F.Field.ops in
    let L = g.met.F.Field.lawful in
    let site = c.args.site.now in
    let geo = site.geometry.now in
    let strips = c.first.result.now in
    let sums = c.peel_rows.new.sums in
    let size : length sums ≡ geo.checks = c.peel_rows.auto.sums ∙ (grind (arith, common_steps)) in
    let count : length c.locate.new.points ≡ length c.args.ahead.now = grind (arith, common_steps) in
    let at = site_at F L geo site.order strips site.gone.now (c.first.ensures.size ∙ c.strips-n.ensures) c.first.ensures.powers site.marks site.room in
    λ xs held wrong ys near gone_not wrong_not.
    rw (c.mul.ensures, c.inv.ensures, c.gap.ensures, c.locator.ensures, c.squares.ensures)
    (sites.error_at F L geo.squares geo.strips geo.checks strips site.gone.now at c.args.square c.args.ahead.now c.requires.chosen
    c.locate.new.points count c.locate.ensures c.args.table.now sums c.requires.codes size (λ i l. rw (← c.checks-c.ensures) (c.peel_rows.ensures i (omega (arith, c.peel_rows.auto.sums))))
    c.row_errors.new.out c.row_errors.ensures.below (rw (c.squares.ensures, c.copy_from_slice.ensures.after) at c.row_errors.ensures.is) xs held wrong ys near gone_not wrong_not)
