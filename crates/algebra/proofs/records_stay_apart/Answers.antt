use Rattle.algebra.proofs.Fitting.{records_apart}
use Rattle.algebra.proofs.records_stay_apart.Goals as goal

pub returns : goal.returns
returns c = records_apart
