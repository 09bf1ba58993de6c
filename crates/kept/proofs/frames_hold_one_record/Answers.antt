use Rattle.kept.specs.CodeOf.{code_of}
use Rattle.kept.proofs.Kept.{one_held}
use Rattle.kept.proofs.Lawful.{lawful}
use Rattle.kept.proofs.frames_hold_one_record.Goals as goal

pub returns : goal.returns
returns a = λ F L m n c rule. one_held (code_of F m n c) (lawful F L m n c rule)
