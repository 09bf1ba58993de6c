-- A candidate is tested: it is every frame that fits and is close, so if it fails the test there is none. Assumes nothing.
use Rattle.std.proofs.Common.{◌≡◌, ℕ, ◌+◌, ◌*◌, ◌/◌, ◌%◌, ◌<◌, Bool, List, length, get_or, sym, ap, ◌∙◌, subst, mod-lt, div-lt_iff_lt-mul, div-add-mod', arith}
use Rattle.refusal.specs.Codes.{Below}
use Rattle.geometry.specs.Rule.{Rule}
use Rattle.laws.specs.Ops.{Ops}
use Rattle.algebra.specs.Frames.{IsFrame}
use Rattle.algebra.specs.Showings.{Showing, Fits}
use Rattle.fitting.specs.declared.counts.Counts.{Counts}
use Rattle.fitting.specs.Decision.{Counted}
use Rattle.solver.specs.Sums.{marked}
use Rattle.frame.specs.Tables.{Sums}
use Rattle.frame.proofs.Strips.{in_strip}
use Rattle.correction.specs.Nearing.{Near}
use Rattle.correction.specs.Tries.{Covers, Close, Missed}
use Rattle.correction.proofs.Silent.{close_near}
use Rattle.attempts.specs.Attempts.{Prepared, Hit}

module _ (F : Ops) (m n c : ℕ) (rule : Rule F.order m n c) (w : Showing) (gone : List Bool) (base checks doubtful : List ℕ) (prepared : Prepared F m n c w gone base checks doubtful)
    (squares start xs table : List ℕ) (start_is : start ≡ base) (size : length xs ≡ n * m) (below : Below F.order xs)
    (found : (wrong : ℕ → Bool) (ys : List ℕ) → Near F m n c (marked gone) wrong squares 0 start ys → xs ≡ ys)
    (table_size : length table ≡ m * c) (sums : Sums F m n c xs table) where
  close_same : (extra : ℕ) → Covers m n w extra squares → (wrong : ℕ → Bool) (ys : List ℕ) → Close F m n c w wrong extra base ys → xs ≡ ys
  close_same extra covers wrong ys close = found wrong ys (subst (λ (zs : List ℕ). Near F m n c (marked gone) wrong squares 0 zs ys) (sym start_is)
      (close_near F m n c w gone squares extra rule.0 prepared.mask covers wrong base ys close))

  zero_sums : IsFrame F m n c xs → (t : ℕ) → t < length table → get_or table t 0 ≡ 0
  zero_sums frame t l =
      let pos = rule.1 in
      let d = div-add-mod' t c in
      let r : t / c < m = (div-lt_iff_lt-mul pos).1 (omega arith) in
      ap (λ z. get_or table z 0) (sym d) ∙ sums.sums (t / c) (t % c) r (mod-lt t pos) ∙ frame.checks (t / c) (t % c) r (mod-lt t pos)

  -- not all check sums are 0
  pub missed_sums : (limit : ℕ) → (((i : ℕ) → i < length table → get_or table i 0 ≡ 0) → ⊥) → (extra : ℕ) → Covers m n w extra squares → Missed F limit m n c w base extra
  missed_sums limit no_frame extra covers wrong ys close fits =
      no_frame (zero_sums (subst (λ (zs : List ℕ). IsFrame F m n c zs) (sym (close_same extra covers wrong ys close)) close.frame))

  -- the candidate does not fit
  pub missed_fit : (limit : ℕ) → (Fits limit m n c w xs → ⊥) → (extra : ℕ) → Covers m n w extra squares → Missed F limit m n c w base extra
  missed_fit limit no_fit extra covers wrong ys close fits = no_fit (subst (λ (zs : List ℕ). Fits limit m n c w zs) (sym (close_same extra covers wrong ys close)) fits)

  -- all are 0, and the candidate fits
  pub hit : (limit : ℕ) → ((i : ℕ) → i < length table → get_or table i 0 ≡ 0) → (k : Counts) → Counted m n w xs k × Fits limit m n c w xs → Hit F limit m n c w xs k
  hit limit zeros k h = record {
    frame = record {
      size = size;
      codes = below;
      checks = λ h i lh li. sym (sums.sums h i lh li) ∙ zeros (h * c + i) (let s = in_strip c m h i lh li in omega arith);
    };
    fits = h.1;
    counted = h.0;
  }
