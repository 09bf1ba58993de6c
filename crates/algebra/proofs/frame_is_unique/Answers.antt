use Rattle.algebra.proofs.Fitting.{frame_unique}
use Rattle.algebra.proofs.frame_is_unique.Goals as goal

pub returns : goal.returns
returns c = frame_unique
