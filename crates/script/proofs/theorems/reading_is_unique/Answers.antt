use Rattle.script.proofs.Spelled.{read_one_way}
use Rattle.script.proofs.theorems.reading_is_unique.Goals as goal

pub returns : goal.returns
returns c = read_one_way
