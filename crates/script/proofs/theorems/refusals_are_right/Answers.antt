use Rattle.script.proofs.Spelled.{refused_rightly}
use Rattle.script.proofs.theorems.refusals_are_right.Goals as goal

pub returns : goal.returns
returns c = refused_rightly
