use Rattle.std.proofs.Common.{◌∙◌, arith}
use Rattle.laws.proofs.ByTables.{product_by_logs}
use Rattle.laws.proofs.Fields.{byte_logs}
use Rattle.field.proofs.bytes.BytesField.mul.Goals as goal

pub returns : goal.returns
returns c =
    let a = c.args.a in
    let b = c.args.b in
    c.exp.ensures.value
    ∙ product_by_logs byte_logs a b c.log.result c.log-2.result (omega arith) (omega arith) c.log.ensures.value c.log-2.ensures.value
