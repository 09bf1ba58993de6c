use Rattle.std.proofs.Common.{Ok, refl}
use Rattle.medium.proofs.Writing.{done}
use Rattle.memory.specs.Shows.{shows}
use Rattle.memory.proofs.Shows.{shows_written}
use Rattle.memory.proofs.as_medium.InMemoryMedium.write.Goals as goal

pub returns-clause-frame : goal.returns-clause-frame
returns-clause-frame g c =
    let t = c.args.self.now.counts in
    let xs = c.args.self.now.bytes.now in
    let ys = c.store_frame.new.bytes in
    let p = g.L.Layout.plan in
    let f = c.args.frame in
    let codes = c.args.codes.now in
    let may = c.in_ok-test_write.ensures.ok in
    done (shows p t xs) (shows p t ys) f codes (Ok tt) may.room.there may.room.codes_long may.below may.unlocked refl
    (shows_written p g.L.Layout.Holds g.met.L.Layout.laws t may.suited xs ys codes f may.room.there may.room.long may.room.codes_long may.below c.store_frame.ensures.frame)
