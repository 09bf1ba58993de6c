use Rattle.std.proofs.Common.{◌≡◌, ℕ, ◌*◌, Bool, List, length, None, sym, ap, ◌∙◌}
use Rattle.std.proofs.lemmas.Bool.{true≢false}
use Rattle.std.proofs.lemmas.List.Elements.{All-from_get_or}
use Rattle.std.proofs.lemmas.Option.{MatchOption-at_none}
use Rattle.algebra.specs.Showings.{Fits}
use Rattle.fitting.specs.Decision.{Counted}
use Rattle.fitting.specs.Marks.{silent_limit}
use Rattle.fitting.specs.Reading.{showing_of}
use Rattle.frame.specs.Tables.{Sums}
use Rattle.candidates.specs.Chosen.{NearAt}
use Rattle.candidates.proofs.Sites.{rule_at}
use Rattle.attempts.proofs.Trying.{missed_sums, missed_fit}
use Rattle.attempts.proofs.attempt.attempt.Goals as goal

pub returns-then-not-all_zero : goal.returns-then-not-all_zero
returns-then-not-all_zero g c =
    let F = g.F.Field.ops in
    let start = c.args.start.now in
    let geo = start.reading.now.geometry in
    let w = showing_of start.reading.now in
    let xs = c.candidate.new.array in
    let table = c.check_sums.new.table in
    let size : length xs ≡ geo.strips * geo.squares = c.candidate.auto.array ∙ ap length c.copy_from_slice.ensures.after ∙ start.prepared.held.size in
    let long : length table ≡ geo.squares * geo.checks = c.check_sums.auto.table ∙ c.candidate.auto.table ∙ ap length c.copy_from_slice-2.ensures.after ∙ start.prepared.held.table_size in
    let found : (wrong : ℕ → Bool) (ys : List ℕ) → NearAt F geo start.site.gone.now wrong c.args.squares.now c.copy_from_slice.new.self ys → xs ≡ ys = rw (← start.same) c.candidate.ensures.frame in
    let sums : Sums F geo.squares geo.strips geo.checks xs table = rw (← start.same) c.check_sums.ensures.value in
    missed_sums F geo.squares geo.strips geo.checks (rule_at F g.met.F.Field.lawful geo (rw start.same at start.site.order)) w start.site.gone.now start.base.now start.checks.now start.doubtful.now start.prepared
    c.args.squares.now c.copy_from_slice.new.self xs table c.copy_from_slice.ensures.after size c.candidate.ensures.below found long sums silent_limit
    (λ zeros. true≢false (sym (c.all_zero.ensures.1 (All-from_get_or (λ sum. sum ≡ 0) table 0 zeros)) ∙ c.if-not-all_zero.true))

pub returns-in_err-counts : goal.returns-in_err-counts
returns-in_err-counts g c =
    let F = g.F.Field.ops in
    let start = c.args.start.now in
    let geo = start.reading.now.geometry in
    let w = showing_of start.reading.now in
    let xs = c.candidate.new.array in
    let table = c.check_sums.new.table in
    let size : length xs ≡ geo.strips * geo.squares = c.candidate.auto.array ∙ ap length c.copy_from_slice.ensures.after ∙ start.prepared.held.size in
    let long : length table ≡ geo.squares * geo.checks = c.check_sums.auto.table ∙ c.candidate.auto.table ∙ ap length c.copy_from_slice-2.ensures.after ∙ start.prepared.held.table_size in
    let found : (wrong : ℕ → Bool) (ys : List ℕ) → NearAt F geo start.site.gone.now wrong c.args.squares.now c.copy_from_slice.new.self ys → xs ≡ ys = rw (← start.same) c.candidate.ensures.frame in
    let sums : Sums F geo.squares geo.strips geo.checks xs table = rw (← start.same) c.check_sums.ensures.value in
    let none : c.weigh.result ≡ None = c.in_err-counts.was in
    rw c.from_residual.ensures (missed_fit F geo.squares geo.strips geo.checks (rule_at F g.met.F.Field.lawful geo (rw start.same at start.site.order)) w start.site.gone.now start.base.now start.checks.now start.doubtful.now start.prepared
    c.args.squares.now c.copy_from_slice.new.self xs table c.copy_from_slice.ensures.after size c.candidate.ensures.below found long sums silent_limit
    (MatchOption-at_none (Fits silent_limit geo.squares geo.strips geo.checks w xs → ⊥) (λ k. Counted geo.squares geo.strips w xs k × Fits silent_limit geo.squares geo.strips geo.checks w xs) none c.weigh.ensures))
