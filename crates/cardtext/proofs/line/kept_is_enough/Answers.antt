use Rattle.cardtext.proofs.Enough.{enough}
use Rattle.cardtext.proofs.line.kept_is_enough.Goals as goal

pub returns : goal.returns
returns c = record { value = enough }
