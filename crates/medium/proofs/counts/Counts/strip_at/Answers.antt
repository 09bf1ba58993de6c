use Rattle.std.proofs.Common.{◌<◌, sym, subst}
use Rattle.medium.specs.Counts.{Shape}
use Rattle.medium.proofs.Places.{strip_inside}
use Rattle.medium.proofs.counts.Counts.strip_at.Goals as goal

pub returns-clause-below : goal.returns-clause-below
returns-clause-below c =
    let there : c.args.frame < c.self.inside.frames = subst (λ (s : Shape). c.args.frame < s.frames) (sym c.self.view_is) c.requires.0 in
    let strip : c.args.strip < c.self.inside.strips = subst (λ (s : Shape). c.args.strip < s.strips) (sym c.self.view_is) c.requires.1.0 in
    rw (← c.self.view_is) (strip_inside c.self.inside.frames c.self.inside.strips c.args.width c.args.frame c.args.strip there strip)
