use Rattle.std.proofs.Common.{◌≡◌, arith}
use Rattle.geometry.specs.Rule.{Rule}
use Rattle.algebra.proofs.Fitting.{frame_unique}
use Rattle.frame.proofs.encoder.encode.Goals as goal

pub returns-clause-only : goal.returns-clause-only
returns-clause-only g c =
    let F = g.F.Field.ops in
    let geo = c.args.geometry.now in
    let same : geo.order ≡ F.order = omega (arith, g.met.F.Field.order_is) in
    let rule : Rule F.order geo.squares geo.strips geo.checks = rw (← same) geo.rule in
    λ _ xs is. frame_unique F g.met.F.Field.lawful geo.squares geo.strips geo.checks rule c.args.symbols.now xs c.write.new.frame is c.write.ensures.frame
