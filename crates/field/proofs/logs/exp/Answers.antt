use Rattle.std.proofs.Common.{◌∙◌}
use Rattle.laws.proofs.ByTables.{padded, antilog_at}
use Rattle.laws.proofs.Fields.{byte_exps, byte_logs}
use Rattle.field.proofs.logs.exp.Goals as goal

pub returns : goal.returns
returns c = record { value = rw c.from.ensures (padded byte_exps 515 c.args.k ∙ antilog_at byte_logs c.args.k) }
