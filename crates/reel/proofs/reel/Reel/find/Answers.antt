use Rattle.std.proofs.Common.{◌≡◌, ◌*◌, ◌≤◌, length, sym, ◌∙◌, subst}
use Rattle.std.proofs.lemmas.List.{length-take-le}
use Rattle.reel.specs.Sight.{Sighted}
use Rattle.reel.proofs.Notes.{sighted_cut}
use Rattle.reel.proofs.Found.{found}
use Rattle.reel.proofs.reel.Reel.find.Goals as goal

pub returns-clause-frame : goal.returns-clause-frame
returns-clause-frame g c =
    let geo = c.args.self.now.geometry in
    let v = g.M.Medium.shows c.args.self.now.medium in
    let sight = c.of-sight.result in
    let over = c.of-sight.ensures in
    let shown = c.shown.result in
    let is = c.shown.ensures in
    let suits = c.requires.ready.suits in
    let some : 1 ≤ v.squares = subst (λ t. 1 ≤ t) (sym suits.squares) geo.rule.0 in
    let seen : Sighted v c.args.frame v.squares shown.codes.now shown.strip_marks.now shown.square_marks.now (v.strips * v.squares) =
    rw (is.codes, is.strips, is.squares, over.size, over.strips) (sighted_cut v c.args.frame v.squares v.strips sight.codes sight.strip_marks sight.square_marks some over.value) in
    let size : sight.size ≡ geo.strips * geo.squares = rw (over.size, suits.strips, suits.squares) in
    let codes : length shown.codes.now ≡ geo.strips * geo.squares = rw is.codes (length-take-le sight.size sight.codes sight.room.2 ∙ size) in
    let squares : length shown.square_marks.now ≡ geo.strips * geo.squares = rw is.squares (length-take-le sight.size sight.square_marks sight.room.1 ∙ size) in
    let strips : length shown.strip_marks.now ≡ geo.strips = rw is.strips (length-take-le sight.strips sight.strip_marks sight.room.0 ∙ over.strips ∙ suits.strips) in
    found g.F.Field.ops geo g.met.F.Field.lawful v c.args.frame shown.codes.now shown.strip_marks.now shown.square_marks.now c.args.found.now c.correct.new.frame c.correct.result
    c.requires.ready codes strips squares c.requires.long seen c.correct.ensures.frame
