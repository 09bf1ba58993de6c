use Rattle.kept.specs.CodeOf.{code_of}
use Rattle.kept.proofs.Kept.{kept}
use Rattle.kept.proofs.Lawful.{lawful}
use Rattle.kept.proofs.kept_records_stand.Goals as goal

pub returns : goal.returns
returns a = λ F L m n c rule. kept (code_of F m n c) (lawful F L m n c rule)
