use Rattle.algebra.proofs.Fitting.{fit_unique}
use Rattle.algebra.proofs.fit_is_unique.Goals as goal

pub returns : goal.returns
returns c = fit_unique
