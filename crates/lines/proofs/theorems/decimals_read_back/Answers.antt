use Rattle.lines.proofs.Values.{decimals}
use Rattle.lines.proofs.theorems.decimals_read_back.Goals as goal

pub returns : goal.returns
returns c = decimals
