use Rattle.std.proofs.Common.{◌++◌, replicate, ltb, lt-ltb, ◌∙◌, arith}
use Rattle.std.proofs.lemmas.Bool.{cond-true}
use Rattle.std.proofs.lemmas.List.{get_or-take}
use Rattle.laws.specs.Ops.{power}
use Rattle.laws.specs.Instances.{bytes}
use Rattle.laws.proofs.ByTables.{padded, antilog_at}
use Rattle.laws.proofs.Fields.{byte_exps, byte_logs}
use Rattle.field.proofs.logs.first_powers.Goals as goal

pub returns : goal.returns
returns c = λ k h. rw c.copy_from_slice.ensures.after
    (get_or-take 256 (byte_exps ++ replicate 515 0) k 0 h ∙ padded byte_exps 515 k ∙ antilog_at byte_logs k ∙ cond-true (ltb k 510) (power bytes 2 k) 0 (lt-ltb k 510 (omega arith)))
