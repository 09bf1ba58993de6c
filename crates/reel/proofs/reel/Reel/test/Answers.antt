use Rattle.std.proofs.Common.{refl, rules}
use Rattle.reel.specs.Loading.{LaidOut}
use Rattle.reel.specs.Calls.{Ready}
use Rattle.reel.proofs.Loaded.{tested}
use Rattle.reel.proofs.reel.Reel.test.Goals as goal

pub returns : goal.returns
returns g c =
    let F = g.F.Field.ops in
    let v = g.M.Medium.shows c.args.medium.now in
    let geo = c.in_ok-geometry.geometry in
    let laid : LaidOut c.args.order c.args.squares c.args.strips c.args.checks geo = search rules in
    let ready : Ready F geo v = search rules in
    record { value = tested F v c.args.order c.args.squares c.args.strips c.args.checks geo laid _ refl ready; limits = search rules }
