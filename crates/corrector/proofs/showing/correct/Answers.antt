use Rattle.std.proofs.Common.{◌≡◌, ◌*◌, ap, ◌∙◌, arith}
use Rattle.attempts.specs.Attempts.{Ready}
use Rattle.corrector.proofs.Granting.{read, granted}
use Rattle.corrector.proofs.showing.correct.Goals as goal

pub returns : goal.returns
returns g c =
    let F = g.F.Field.ops in
    let geo = c.args.geometry.now in
    let r = c.in_ok-reading.reading in
    let is = read F geo c.args.shown r c.in_ok-reading.ensures in
    let m : r.geometry.squares ≡ geo.squares = ap (λ h. h.squares) is.geometry_is in
    let n : r.geometry.strips ≡ geo.strips = ap (λ h. h.strips) is.geometry_is in
    let checks : r.geometry.checks ≡ geo.checks = ap (λ h. h.checks) is.geometry_is in
    let size : geo.strips * geo.squares ≡ r.geometry.strips * r.geometry.squares = cc in
    let ready : Ready F r = record {
      order_is = is.order_is;
      gone = omega (arith, c.if-count_gone-checks.false, c.count_gone.ensures, c.checks.ensures);
      doubtful = omega (arith, c.if-count_doubtful-squares.false, c.count_doubtful.ensures, c.squares.ensures);
    } in
    record { frame = granted F geo c.args.shown r is c.args.frame.now c.correct_sums-found.new.frame ready (c.if-frame-frame_size.false ∙ c.frame_size.ensures ∙ size) c.correct_sums-found.result c.correct_sums-found.ensures c.ok_or.result c.ok_or.ensures.value }
