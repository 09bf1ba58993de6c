use Rattle.lines.proofs.Values.{symbols}
use Rattle.lines.proofs.theorems.symbols_read_back.Goals as goal

pub returns : goal.returns
returns c = symbols
