use Rattle.solver.proofs.Rowing.{final_codes}
use Rattle.solver.proofs.row.row_errors.Goals as goal

pub returns-clause-is : goal.returns-clause-is
returns-clause-is g c =
    final_codes g.F.Field.ops g.met.F.Field.lawful c.args.points.now c.args.sums.now c.args.gone.now c.locate.new.mask c.restore.new.out c.requires.0 c.locate.ensures c.restore.ensures
