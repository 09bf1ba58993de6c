use Rattle.std.proofs.Common.{◌≡◌, ℕ, ◌+◌, ◌*◌, ◌<◌, List, length, get_or, ap, ◌∙◌, subst, arith}
use Rattle.std.specs.Iterator.Adapters.{enumerate_source, enumerate_count}
use Rattle.frame.specs.Tables.{Scattered, CheckColumns}
use Rattle.frame.proofs.Strips.{AtChunk, part_at, chunk_turn, chunk_end}
use Rattle.frame.proofs.Checks.{check_columns_more}
use Rattle.frame.proofs.encoder.check_columns.Goals as goal

pub loop-h-preserved : goal.loop-h-preserved
loop-h-preserved g c =
    let F = g.F.Field.ops in
    let m = c.args.m in
    let h = c.in-Some.h in
    let table = c.args.table.now in
    let points = c.args.locators.now in
    let k = length points in
    let inv = c.loop-h.invariant in
    let step = c.in-Some.ensures.steps in
    let here : h ≡ enumerate_count c.loop-h.h-iterator = step.1 in
    let at : AtChunk k h table (enumerate_source c.loop-h.h-iterator) = rw here inv.2 in
    let turn = chunk_turn k m h table _ (enumerate_source c.next.new.self) at c.requires.table_size c.in-Some.sums c.requires.some step.0 in
    let next : enumerate_count c.next.new.self ≡ h + 1 = omega arith in
    let copied = c.copy_from_slice.ensures.after ∙ turn.1 in
    let wide : length c.solve.new.values ≡ k = omega (arith, inv.0) in
    let turned : (i : ℕ) → i < k → get_or c.negate.new.sums i 0 ≡ F.neg (get_or table (h * k + i) 0) =
    λ i l. c.negate.ensures i (omega (arith, inv.0)) ∙ ap (λ (zs : List ℕ). F.neg (get_or zs i 0)) copied ∙ ap F.neg (part_at k h table i l) in
    rw next (
      wide,
      omega (arith, turn.0),
      turn.2,
      check_columns_more F m h points table c.loop-h.columns c.negate.new.sums c.solve.new.values c.scatter_row.new.columns turn.0
          turned wide c.solve.ensures
          (subst (λ (n : ℕ). Scattered m h n c.solve.new.values c.loop-h.columns c.scatter_row.new.columns) wide c.scatter_row.ensures.value)
          (rw here inv.3),
    )

pub returns : goal.returns
returns g c =
    let inv = c.loop-h.invariant in
    let all = chunk_end (length c.args.locators.now) c.args.m _ c.args.table.now _ (enumerate_source c.next.new.self) inv.2 c.requires.table_size inv.1 c.in-None.ensures.steps.0 in
    record { value = subst (λ (k : ℕ). CheckColumns g.F.Field.ops c.args.m k c.args.locators.now c.args.table.now c.loop-h.columns) all inv.3 }
