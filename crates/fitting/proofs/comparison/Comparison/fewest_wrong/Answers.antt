use Rattle.std.proofs.Common.{ℕ, ◌+◌, ◌-◌, ◌*◌, eqb, ap, arith}
use Rattle.geometry.specs.declared.Geometry.{Geometry}
use Rattle.fitting.specs.declared.comparison.Comparison.{Comparison}
use Rattle.fitting.specs.Reading.{showing_of}
use Rattle.fitting.specs.Wrong.{changes}
use Rattle.algebra.proofs.Counting.{count_le}
use Rattle.fitting.proofs.Naming.{start, spare_most, spare_most_room, fewest}
use Rattle.fitting.proofs.comparison.Comparison.fewest_wrong.Goals as goal

abbrev changes_in : Comparison → ℕ → ℕ
changes_in x = changes x.reading.geometry.squares (showing_of x.reading) x.frame.now

pub overflow_sub-wrong : goal.overflow_sub-wrong
overflow_sub-wrong c =
    omega (arith, c.strips_with.ensures, ap (λ (g : Geometry). g.strips) c.geometry.ensures, count_le (λ j. eqb (changes_in c.args.self.now j) 0) c.args.self.now.reading.geometry.strips)

pub loop-changed-init : goal.loop-changed-init
loop-changed-init c =
    start (changes_in c.args.self.now) c.args.self.now.reading.geometry.strips c.args.budget (c.strips.result - c.strips_with.result) (omega (arith, c.strips_with.ensures, ap (λ (g : Geometry). g.strips) c.geometry.ensures))

pub overflow_sub-wrong-in-loop-changed : goal.overflow_sub-wrong-in-loop-changed
overflow_sub-wrong-in-loop-changed c =
    spare_most_room (changes_in c.args.self.now) c.args.self.now.reading.geometry.strips c.args.budget c.loop-changed.changed c.loop-changed.wrong c.loop-changed.rest
    c.strips_with-in-loop-changed.result c.min-out.result (omega arith) c.strips_with-in-loop-changed.ensures c.min-out.ensures c.loop-changed.invariant

pub loop-changed-preserved : goal.loop-changed-preserved
loop-changed-preserved c =
    spare_most (changes_in c.args.self.now) c.args.self.now.reading.geometry.strips c.args.budget c.loop-changed.changed c.loop-changed.wrong c.loop-changed.rest
    c.strips_with-in-loop-changed.result c.min-out.result (omega arith) c.strips_with-in-loop-changed.ensures c.min-out.ensures c.loop-changed.invariant

pub returns : goal.returns
returns c =
    fewest (changes_in c.args.self.now) c.args.self.now.reading.geometry.strips c.args.budget c.loop-changed.changed c.loop-changed.wrong c.loop-changed.rest c.loop-changed.invariant c.loop-changed-test.false

pub returns-2 : goal.returns-2
returns-2 c =
    let next = spare_most (changes_in c.args.self.now) c.args.self.now.reading.geometry.strips c.args.budget c.loop-changed.changed c.loop-changed.wrong c.loop-changed.rest
    c.strips_with-in-loop-changed.result c.min-out.result (omega arith) c.strips_with-in-loop-changed.ensures c.min-out.ensures c.loop-changed.invariant in
    fewest (changes_in c.args.self.now) c.args.self.now.reading.geometry.strips c.args.budget (c.loop-changed.changed + 1) (c.loop-changed.wrong - c.min-out.result)
    (c.loop-changed.rest - c.min-out.result * c.loop-changed.changed) next (omega arith)
