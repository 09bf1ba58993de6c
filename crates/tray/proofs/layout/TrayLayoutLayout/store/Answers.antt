use Rattle.tray.proofs.Strips.{written}
use Rattle.tray.proofs.layout.TrayLayoutLayout.store.Goals as goal

pub returns : goal.returns
returns c =
    record { value = written c.args.strip.now c.args.codes.now c.copy_from_slice.new.self c.fill.new.self c.requires.0 c.copy_from_slice.ensures.after (c.fill.ensures.after (λ y e. e)) }
