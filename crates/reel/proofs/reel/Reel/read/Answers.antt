use Rattle.reel.proofs.Keeping.{reading_kept}
use Rattle.reel.proofs.reel.Reel.read.Goals as goal

pub returns-clause-kept : goal.returns-clause-kept
returns-clause-kept g c =
    reading_kept g.F.Field.ops g.met.F.Field.lawful c.args.self.now.geometry (g.M.Medium.shows c.args.self.now.medium)
    (g.M.Medium.shows c.read_fitting.new.self.medium) c.args.frame c.read_fitting.result c.args.out.now c.read_fitting.new.out c.read_fitting.ensures.value
