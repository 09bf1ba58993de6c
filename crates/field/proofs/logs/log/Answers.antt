use Rattle.std.proofs.Common.{refl, arith}
use Rattle.laws.proofs.ByTables.{logarithm_at, log_most}
use Rattle.laws.proofs.Fields.{byte_logs}
use Rattle.field.proofs.logs.log.Goals as goal

pub returns : goal.returns
returns c =
    let l = logarithm_at byte_logs refl c.args.a (omega arith) in
    record { below = rw c.from.ensures (log_most byte_logs c.args.a _ l); value = rw c.from.ensures l }
