use Rattle.std.proofs.Common.{sym, refl, subst, inl, inr}
use Rattle.std.proofs.lemmas.Bool.{both_ways}
use Rattle.refusal.proofs.Causes.{ok_not_err}
use Rattle.medium.specs.Write.{Written}
use Rattle.kept.specs.Shows.{Shows}
use Rattle.reel.proofs.Notes.{wrote}
use Rattle.reel.proofs.writing.put.Goals as goal

pub returns-in_err-write : goal.returns-in_err-write
returns-in_err-write g c =
    let put = wrote (g.M.Medium.shows c.args.medium.now) (g.M.Medium.shows c.write.new.self) c.args.frame c.args.codes.now c.write.result c.requires.there c.requires.long c.requires.below c.requires.unlocked c.write.ensures.frame in
    absurd (ok_not_err c.write.result put.0 c.in_err-write.was)

pub returns-then-not-shows_codes : goal.returns-then-not-shows_codes
returns-then-not-shows_codes g c =
    let v = g.M.Medium.shows c.args.medium.now in
    let u = g.M.Medium.shows c.write.new.self in
    let f = c.args.frame in
    let xs = c.args.codes.now in
    let put = wrote v u f xs c.write.result c.requires.there c.requires.long c.requires.below c.requires.unlocked c.write.ensures.frame in
    let hidden : Shows u f xs → ⊥ = λ s. both_ways c.shows_codes.result c.if-not-shows_codes.true (c.shows_codes.ensures.value.1 s) in
    let same = c.shows_codes.ensures.same in
    record { frame = (subst (λ t. Written v f xs t) (sym same) put.1, inl ((λ s. hidden (subst (λ t. Shows t f xs) same s)), refl, tt)) }

pub returns : goal.returns
returns g c =
    let v = g.M.Medium.shows c.args.medium.now in
    let u = g.M.Medium.shows c.write.new.self in
    let f = c.args.frame in
    let xs = c.args.codes.now in
    let put = wrote v u f xs c.write.result c.requires.there c.requires.long c.requires.below c.requires.unlocked c.write.ensures.frame in
    let shown : Shows u f xs = c.shows_codes.ensures.value.0 c.if-not-shows_codes.false in
    let same = sym c.shows_codes.ensures.same in
    record { frame = (subst (λ t. Written v f xs t) same put.1, inr ((λ ne. ne (subst (λ t. Shows t f xs) same shown)), refl)) }
