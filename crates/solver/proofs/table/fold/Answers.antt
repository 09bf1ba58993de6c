use Rattle.std.proofs.Common.{◌≡◌, ◌+◌, ◌-◌, ◌*◌, length, get_or, ap, ◌∙◌, arith}
use borrow.Rule.Slice.PartMut.{same_len_mid}
use Rattle.solver.specs.Sums.{fold_of}
use Rattle.solver.proofs.Tables.{fold_more}
use Rattle.solver.proofs.table.fold.Goals as goal

pub loop-k-preserved : goal.loop-k-preserved
loop-k-preserved g c =
    let work = c.loop-k.work in
    let k = c.loop-k.k in (
      same_len_mid k (length work - k) work c.peel.new.values c.peel.auto.values ∙ c.loop-k.invariant.0,
      fold_more g.F.Field.ops c.args.points.now (λ h. get_or c.args.table.now (h * c.args.c + c.args.i) 0) k (length c.args.points.now) work c.peel.new.values
          c.loop-k.invariant.1 (omega arith) c.loop-k.invariant.0 c.peel.auto.values c.peel.ensures,
    )

pub returns : goal.returns
returns g c =
    let n = length c.args.points.now in
    let e : c.loop-k.k ≡ n = omega arith in
    let z : n ≡ c.loop-k.k + 0 = omega arith in
    ap (λ q. get_or c.loop-k.work q 0) z ∙ c.loop-k.invariant.1 0 (omega arith) ∙ ap (λ k. fold_of g.F.Field.ops c.args.points.now (λ h. get_or c.args.table.now (h * c.args.c + c.args.i) 0) k 0) e
