use Rattle.laws.proofs.Fields.{byte_laws}
use Rattle.laws.proofs.byte_field_stands.Goals as goal

pub returns : goal.returns
returns c = byte_laws
