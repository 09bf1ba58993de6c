-- The codes of a frame, gone through strip by strip: n strips of m codes. Assumes nothing.
use Rattle.std.proofs.Common.{◌≡◌, ℕ, ◌+◌, ◌-◌, ◌*◌, ◌<◌, ◌≤◌, Bor, Some, None, List, ◌++◌, length, take, drop, sym, ap, ◌∙◌, subst, inl, inr, suc-mul, add-one, mul-le-mul_right, arith, length-append, length-drop}
use Rattle.std.proofs.lemmas.Bool.{cases_lt}
use Rattle.std.proofs.lemmas.List.{take_at, drop_at, drop-drop}
use Rattle.std.specs.declared.slice.ChunksExact.{ChunksExact}
use Rattle.std.specs.Slice.Iter.{chunks_exact_rest, chunks_exact_size, chunks_exact_steps}
use Rattle.medium.proofs.Places.{row_le}
use Rattle.memory.specs.Plan.{Alike}
use Rattle.memory.proofs.Places.{alike_part}

-- the iterator before strip s
pub record AtStrip (m s : ℕ) (codes : List ℕ) (it : ChunksExact ℕ) : Type 0 where
  pub size : chunks_exact_size it ≡ m
  pub left : chunks_exact_rest it ≡ drop (s * m) codes

module _ (m n s : ℕ) (codes : List ℕ) (it next : ChunksExact ℕ) (at : AtStrip m s codes it) (size : length codes ≡ n * m) where
  over : length (chunks_exact_rest it) ≡ length codes - s * m
  over = ap length at.left ∙ length-drop (s * m) codes

  -- the strip that comes, and the iterator behind it
  pub strip_turn : (x : Bor (List ℕ)) → 1 ≤ m → chunks_exact_steps it (Some x) next → (s < n) × (length x.now ≡ m) × Alike m x.now 0 codes (s * m) × AtStrip m (s + 1) codes next
  strip_turn x some step =
      let long : length x.now ≡ m = step.1.1 ∙ at.size in
      let rest : x.now ++ chunks_exact_rest next ≡ drop (s * m) codes = sym step.1.0 ∙ at.left in
      let is : take m (drop (s * m) codes) ≡ x.now = sym (ap (take m) rest) ∙ take_at x.now (chunks_exact_rest next) m long in (
        elim (cases_lt s n) [
          | inl l ↦ l
          | inr l ↦ (let up = mul-le-mul_right m l in let o = over in let both = ap length step.1.0 ∙ length-append x.now (chunks_exact_rest next) in absurd (omega arith))
        ],
        long,
        subst (λ (xs : List ℕ). Alike m xs 0 codes (s * m)) is (alike_part codes (s * m) m m (omega arith)),
        record {
          size = step.0 ∙ at.size;
          left = sym (drop_at x.now (chunks_exact_rest next) m long) ∙ ap (drop m) rest ∙ drop-drop m (s * m) codes ∙ ap (λ i. drop i codes) (sym (rw (add-one s) (suc-mul s m)));
        },
      )

  -- where no strip comes, all have come
  pub strip_end : s ≤ n → chunks_exact_steps it None next → s ≡ n
  strip_end most step = elim (cases_lt s n) [
    | inl l ↦ (let e = row_le s n m l in let o = over in let z = at.size in let short = step.1.0 in absurd (omega arith))
    | inr l ↦ omega arith
  ]
