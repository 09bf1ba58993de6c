use Rattle.reel.proofs.Keeping.{mending_kept}
use Rattle.reel.proofs.reel.Reel.mend.Goals as goal

pub returns-clause-kept : goal.returns-clause-kept
returns-clause-kept g c =
    mending_kept g.F.Field.ops g.met.F.Field.lawful c.args.self.now.geometry (g.M.Medium.shows c.args.self.now.medium) (g.M.Medium.shows c.copy.new.self.medium)
    c.args.frame c.copy.result c.copy.ensures.frame
