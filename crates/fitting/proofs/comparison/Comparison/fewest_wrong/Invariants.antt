use Rattle.fitting.specs.Reading.{showing_of}
use Rattle.fitting.specs.Wrong.{changes, Stage}
use Rattle.fitting.proofs.comparison.Comparison.fewest_wrong.Given as goal

abbrev pub invariant-loop-changed : goal.invariant-loop-changed
invariant-loop-changed l = Stage l.self.reading.geometry.strips l.budget (changes l.self.reading.geometry.squares (showing_of l.self.reading) l.self.frame.now) l.changed l.wrong l.rest
