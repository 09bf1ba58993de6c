use Rattle.std.proofs.Common.{◌≡◌, ◌*◌, ◌/◌, ◌%◌, ◌<◌, refl, ◌∙◌, arith, rules}
use Rattle.refusal.proofs.Causes.{same_ok}
use Rattle.medium.specs.Meaning.{look_at}
use Rattle.kept.proofs.Looks.{looked}
use Rattle.reel.proofs.Notes.{noting_none, noting_more}
use Rattle.reel.proofs.sight.Sight.of.Goals as goal

pub loop-place-init : goal.loop-place-init
loop-place-init g c =
    let sight = c.blank-sight.result in
    let marks = c.blank-sight.ensures.marks in
    let none = noting_none (g.M.Medium.shows c.args.medium.now) c.args.frame c.squares-squares.result 255 255 sight.codes in (
      refl,
      c.blank-sight.ensures.counts.0,
      c.blank-sight.ensures.counts.1,
      rw (marks.0, marks.1) none,
    )

pub loop-place-preserved : goal.loop-place-preserved
loop-place-preserved g c =
    let w = g.M.Medium.shows c.args.medium.now in
    let sight = c.loop-place.sight in
    let p = c.loop-place.place in
    let m = c.squares-squares.result in
    let look = c.unwrap-look.result in
    let old = c.loop-place.invariant in
    let inside : p < w.strips * m = search rules in
    let is : look ≡ look_at w c.args.frame (p / m) (p % m) =
    same_ok c.look.result c.unwrap-look.ensures
    (looked (g.M.Medium.shows c.loop-place.medium) w c.args.frame p m c.look.result c.requires.there c.squares-squares.ensures.value inside old.0 c.look.ensures.value) in
    let strip : p / m < c.strips-strips.result = search rules in
    let new = c.note.ensures in (
      c.look.ensures.same ∙ old.0,
      new.still.0 ∙ old.1,
      new.still.1 ∙ old.2,
      rw (new.strips, new.squares, new.codes) (noting_more w c.args.frame m p sight.codes sight.strip_marks sight.square_marks look is (omega arith) (omega arith) (omega arith) old.3),
    )
