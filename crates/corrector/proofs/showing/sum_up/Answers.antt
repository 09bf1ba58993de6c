use Rattle.std.proofs.Common.{◌∙◌}
use Rattle.fitting.specs.Reading.{showing_of}
use Rattle.correction.specs.Tries.{Readout}
use Rattle.corrector.proofs.Preparing.{summed}
use Rattle.corrector.proofs.showing.sum_up.Goals as goal

pub returns : goal.returns
returns g c =
    let r = c.args.reading.now in
    let geo = r.geometry in
    let read : Readout geo.squares geo.strips (showing_of r) c.read_out.new.base
    = rw (c.squares.ensures, c.order.ensures, c.shown.ensures, c.geometry-geometry.ensures, r.sized.strips_size) at c.read_out.ensures.value in
    summed g.F.Field.ops geo.squares geo.strips geo.checks (showing_of r) c.read_out.new.base c.check_sums.new.table read
    (c.check_sums.auto.table ∙ c.requires.size) (rw c.geometry-geometry.ensures at c.check_sums.ensures.value)
