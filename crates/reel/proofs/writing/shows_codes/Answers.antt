use Rattle.std.proofs.Common.{◌≡◌, ◌*◌, ◌≤◌, length, sym, refl, ap, ◌∙◌, subst, arith}
use Rattle.kept.proofs.Looks.{shows_all}
use Rattle.reel.proofs.writing.shows_codes.Goals as goal

pub returns-clause-value : goal.returns-clause-value
returns-clause-value g c =
    let w = g.M.Medium.shows c.args.medium.now in
    let m = c.squares-squares.result in
    let e : m ≡ w.squares = c.squares-squares.ensures.value in
    let long : length c.args.codes.now ≡ w.strips * m = c.requires.long ∙ ap (λ t. w.strips * t) (sym e) in (
      λ _. shows_all w c.args.frame m w.strips (subst (λ t. 1 ≤ t) (sym e) c.requires.some) refl (sym e) c.args.codes.now (λ k h. c.loop-place.invariant.1 k (omega arith)),
      λ _. refl,
    )
