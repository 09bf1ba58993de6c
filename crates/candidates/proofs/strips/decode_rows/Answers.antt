use Rattle.std.proofs.Common.{◌≡◌, ℕ, ◌+◌, ◌-◌, ◌*◌, ◌≤◌, length, take, drop, sym, ◌∙◌, subst, arith}
use Rattle.std.specs.Iterator.Adapters.{enumerate_source, enumerate_count}
use Rattle.frame.specs.Tables.{Scattered}
use Rattle.frame.proofs.Strips.{AtChunk, part_size, part_below, chunk_turn, chunk_end}
use Rattle.solver.proofs.Parts.{part}
use Rattle.correction.specs.Nearing.{Found, Decodes}
use Rattle.correction.proofs.Sites.{site_row}
use Rattle.correction.proofs.Strips.{found_more}
use Rattle.candidates.proofs.Sites.{site_at, same_powers}
use Rattle.candidates.proofs.strips.decode_rows.Goals as goal

pub row_errors-requires : goal.row_errors-requires
row_errors-requires g c =
    let F = g.F.Field.ops in
    let L = g.met.F.Field.lawful in
    let site = c.args.site.now in
    let geo = site.geometry.now in
    let m = geo.squares in
    let w = geo.checks in
    let table = c.args.table.now in
    let strips = c.first-strips.result.now in
    let h = enumerate_count c.loop-h.h-iterator in
    let inv = c.loop-h.invariant in
    let steps = c.in-Some.ensures.steps in
    let chunk : AtChunk w h table (enumerate_source c.loop-h.h-iterator) = rw (← c.checks-c.ensures) inv.2 in
    let turn = chunk_turn w m h table _ (enumerate_source c.next.new.self) chunk c.requires.size c.in-Some.sums geo.rule.1 steps.0 in
    let at = site_at F L geo site.order strips site.gone.now (c.first-strips.ensures.size ∙ c.strips-n.ensures) c.first-strips.ensures.powers site.marks site.room in (
      rw turn.1 (site_row F L m geo.strips w strips (part (h * w) (h * w + w) table) site.gone.now site.gone.now at
          (part_below F.order w m h table turn.0 c.requires.size c.requires.codes) (part_size w m h table turn.0 c.requires.size) site.marks (omega (arith, site.room))),
      inv.0 ∙ sym c.first-strips.ensures.size,
    )

pub loop-h-preserved : goal.loop-h-preserved
loop-h-preserved g c =
    let F = g.F.Field.ops in
    let site = c.args.site.now in
    let geo = site.geometry.now in
    let m = c.squares-m.result in
    let w = c.checks-c.result in
    let table = c.args.table.now in
    let strips = c.first-strips.result.now in
    let h = enumerate_count c.loop-h.h-iterator in
    let inv = c.loop-h.invariant in
    let steps = c.in-Some.ensures.steps in
    let some : 1 ≤ w = rw c.checks-c.ensures geo.rule.1 in
    let size : length table ≡ m * w = rw (c.squares-m.ensures, c.checks-c.ensures) c.requires.size in
    let turn = chunk_turn w m h table _ (enumerate_source c.next.new.self) inv.2 size c.in-Some.sums some steps.0 in
    let row = c.row_errors.new.out in
    let wide : length row ≡ length strips = c.row_errors.auto.out ∙ inv.0 ∙ sym c.first-strips.ensures.size in
    let put : Scattered m h (length row) row c.loop-h.columns c.scatter_row.new.columns = rw (← steps.1) c.scatter_row.ensures.value in
    let is : Decodes F strips (take (h * w + w - h * w) (drop (h * w) table)) site.gone.now row = rw (← turn.1) c.row_errors.ensures.is in
    let more = found_more F m w h strips site.gone.now table c.loop-h.columns c.scatter_row.new.columns row turn.0 wide inv.3 put c.row_errors.ensures.below is in (
      c.row_errors.auto.out ∙ inv.0,
      omega (arith, steps.2, turn.0),
      subst (λ (k : ℕ). AtChunk w k table (enumerate_source c.next.new.self)) (sym steps.2) turn.2,
      subst (λ (k : ℕ). Found F m w k strips site.gone.now table c.scatter_row.new.columns) (sym steps.2) more,
    )

pub returns : goal.returns
returns g c =
    let F = g.F.Field.ops in
    let site = c.args.site.now in
    let geo = site.geometry.now in
    let m = c.squares-m.result in
    let w = c.checks-c.result in
    let table = c.args.table.now in
    let first = c.first-strips.result.now in
    let h = enumerate_count c.loop-h.h-iterator in
    let inv = c.loop-h.invariant in
    let size : length table ≡ m * w = rw (c.squares-m.ensures, c.checks-c.ensures) c.requires.size in
    let all : h ≡ m = chunk_end w m h table _ (enumerate_source c.next.new.self) inv.2 size inv.1 c.in-None.ensures.steps.0 in
    let found : Found F geo.squares geo.checks geo.squares first site.gone.now table c.loop-h.columns
    = rw (← c.squares-m.ensures, ← c.checks-c.ensures) (subst (λ (k : ℕ). Found F m w k first site.gone.now table c.loop-h.columns) all inv.3) in
    λ strips long powers. rw (same_powers F F.generator geo.strips strips first long (c.first-strips.ensures.size ∙ c.strips-n.ensures) powers c.first-strips.ensures.powers) found
