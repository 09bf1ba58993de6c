use Rattle.std.proofs.Common.{◌≡◌, ◌+◌, subst, arith}
use Rattle.std.specs.Iterator.Adapters.{enumerate_source, enumerate_count}
use Rattle.medium.specs.Memory.{Filled}
use Rattle.memory.specs.Shows.{strip_of}
use Rattle.memory.proofs.Chunks.{strip_turn, strip_end}
use Rattle.memory.proofs.Written.{strips_more}
use Rattle.memory.proofs.write.store_frame.Goals as goal

pub loop-strip-preserved : goal.loop-strip-preserved
loop-strip-preserved g c =
    let t = c.args.counts in
    let codes = c.args.codes.now in
    let s = c.in-Some.strip in
    let inv = c.loop-strip.invariant in
    let steps = c.in-Some.ensures.steps in
    let here : s ≡ enumerate_count c.loop-strip.strip-iterator = steps.1 in
    let turn = strip_turn t.squares t.strips s codes (enumerate_source c.loop-strip.strip-iterator) (enumerate_source c.next.new.self) (rw here inv.1) c.requires.0.codes_long c.in-Some.codes (omega arith) steps.0 in
    let next : enumerate_count c.next.new.self ≡ s + 1 = omega arith in
    rw next (
      omega (arith, turn.0),
      turn.3,
      strips_more g.L.Layout.plan g.L.Layout.Holds g.met.L.Layout.laws t c.args.frame codes s c.args.bytes.now c.loop-strip.bytes c.store_strip.new.bytes c.in-Some.codes.now
          turn.2 turn.0 (rw here inv.2) c.store_strip.ensures.frame c.store_strip.ensures.same,
    )

pub returns : goal.returns
returns g c =
    let t = c.args.counts in
    let inv = c.loop-strip.invariant in
    let all = strip_end t.squares t.strips _ c.args.codes.now _ (enumerate_source c.next.new.self) inv.1 c.requires.0.codes_long inv.0 c.in-None.ensures.steps.0 in
    record { frame = subst (λ s. Filled t.strips (g.L.Layout.plan.width t.squares) c.args.frame s (strip_of g.L.Layout.plan g.L.Layout.Holds t c.args.frame c.args.codes.now) c.args.bytes.now c.loop-strip.bytes) all inv.2 }
