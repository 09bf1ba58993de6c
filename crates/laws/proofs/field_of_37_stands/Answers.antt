use Rattle.laws.proofs.Fields.{mod37_laws}
use Rattle.laws.proofs.field_of_37_stands.Goals as goal

pub returns : goal.returns
returns c = mod37_laws
