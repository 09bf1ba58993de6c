use Rattle.algebra.proofs.Clean.{exact_fits}
use Rattle.algebra.proofs.exact_showing_fits.Goals as goal

pub returns : goal.returns
returns c = exact_fits
