use Rattle.std.proofs.Common.{◌≡◌, ◌≤◌, length, ap, ◌∙◌, subst, refl, arith, length-take, length-drop}
use Rattle.medium.specs.Places.{strip_at}
use Rattle.medium.proofs.Places.{strip_inside}
use Rattle.memory.proofs.Places.{alike_put}
use Rattle.memory.proofs.write.store_strip.Goals as goal

pub returns-clause-frame : goal.returns-clause-frame
returns-clause-frame g c =
    let t = c.args.counts in
    let strip = c.store.new.strip in
    let codes = c.args.codes.now in
    let w = g.L.Layout.plan.width t.squares in
    let wide : c.width-width.result ≡ w = c.width-width.ensures.value in
    let place : c.strip_at-at.result ≡ strip_at t.strips w c.args.frame c.args.strip = c.strip_at-at.ensures.value ∙ ap (λ z. strip_at t.strips z c.args.frame c.args.strip) wide in
    let inside = strip_inside t.frames t.strips w c.args.frame c.args.strip c.requires.place.frame c.requires.place.strip in
    let here : c.strip_at-at.result ≤ length c.args.bytes.now = omega (arith, c.requires.place.long) in
    let same = simp (length-take, length-drop) at c.store.auto.strip in
    let long : w ≤ length strip = omega arith in
    g.met.L.Layout.laws.holds_alone t.squares strip 0 _ _ codes 0 codes 0
    (alike_put c.args.bytes.now strip c.strip_at-at.result (strip_at t.strips w c.args.frame c.args.strip) _ w place here long)
    (record { each = λ i h. refl })
    (subst (λ m. g.L.Layout.Holds strip 0 m codes 0) c.requires.codes.0 c.store.ensures.value)
