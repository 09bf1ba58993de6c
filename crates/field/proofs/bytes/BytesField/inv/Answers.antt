use Rattle.std.proofs.Common.{sym, ap, ◌∙◌, arith}
use Rattle.laws.specs.Instances.{bytes}
use Rattle.laws.proofs.ByTables.{inverse_by_logs}
use Rattle.laws.proofs.Fields.{byte_logs, byte_laws}
use Rattle.field.proofs.bytes.BytesField.inv.Goals as goal

pub returns-then-a-eq0 : goal.returns-then-a-eq0
returns-then-a-eq0 c = sym (ap (λ x. bytes.inv x) c.if-a-eq0.true ∙ byte_laws.inv_zero)

pub returns-else-a-eq0 : goal.returns-else-a-eq0
returns-else-a-eq0 c =
    c.exp.ensures.value
    ∙ inverse_by_logs byte_logs c.args.a c.log.result (omega arith) c.if-a-eq0.false c.log.ensures.value
