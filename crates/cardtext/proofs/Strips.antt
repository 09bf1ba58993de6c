-- A text that is written strip by strip: each strip leaves those before it as they were, by their places. Assumes nothing.
use Rattle.std.proofs.Common.{◌≡◌, ℕ, ◌+◌, ◌*◌, ◌<◌, ◌≤◌, List, ◌++◌, length, get_or, drop, zero-add, sym, ap, ◌∙◌, subst, inl, inr, arith, length-append, length-drop, get_or-drop, below_more}
use Rattle.std.proofs.lemmas.Bool.{cases_lt}
use Rattle.std.proofs.lemmas.List.{places, drop_at, drop-drop, get_or_append_left}
use borrow.Rule.Slice.PartMut.{put_mid}
use Rattle.medium.specs.Memory.{Beside}
use Rattle.medium.proofs.Places.{row_le}
use Rattle.card.specs.Alphabet.{letter}
use Rattle.cardtext.specs.Text.{Group, Text, width, ending}

-- the first t of n strips of m squares are written, and those that are left to write are the rest of the array
pub record Written (m n t : ℕ) (xs rest was out : List ℕ) : Type 0 where
  pub before : t ≤ n
  pub ahead : rest ≡ drop (t * m) xs
  pub text : Text m n xs out t
  pub beside : Beside was out 0 (t * width m)

-- while a whole strip is left, this one is before the last
strip_before : (m n t : ℕ) (xs : List ℕ) → 1 ≤ m → length xs ≡ n * m → m ≤ length (drop (t * m) xs) → t < n
strip_before m n t xs some long left = elim (cases_lt t n) [
  | inl l ↦ l
  | inr l ↦ absurd (let r = row_le n (t + 1) m (omega arith) in let d = length-drop (t * m) xs in omega arith)
]

pub all_written : (m n t : ℕ) (xs rest was out : List ℕ) → length xs ≡ n * m → Written m n t xs rest was out → length rest < m → t ≡ n
all_written m n t xs rest was out long w short = elim (cases_lt t n) [
  | inl l ↦ absurd (omega (arith, row_le t n m l, ap length w.ahead ∙ length-drop (t * m) xs))
  | inr l ↦ omega (arith, w.before)
]

-- a strip below what was written is as it was
group_kept : (m : ℕ) (xs : List ℕ) (at from end lo hi : ℕ) (ys zs : List ℕ) → at + width m ≤ lo → Beside ys zs lo hi → Group ys at m xs from end → Group zs at m xs from end
group_kept m xs at from end lo hi ys zs h b s = record {
  shown = λ κ l. b.below (at + κ) (omega arith) ∙ s.shown κ l;
  ended = b.below (at + m) (omega arith) ∙ s.ended;
}

-- the strip that is put in its place
module _ (k at : ℕ) (out line : List ℕ) (long : length line ≡ k) (room : at + k ≤ length out) where
  put_beside : Beside out (put_mid at k out line) at (at + k)
  put_beside = record { long = grind (arith, places); below = λ i h. grind (arith, places); above = λ i h. grind (arith, places) }

  put_inside : (i : ℕ) → i < k → get_or (put_mid at k out line) (at + i) 0 ≡ get_or line i 0
  put_inside i h = grind (arith, places)

-- one strip more
pub written_more : (m n t t' at k : ℕ) (xs rest strip rest' was out line : List ℕ) (end : ℕ) → 1 ≤ m → length xs ≡ n * m → n * width m ≤ length out → Written m n t xs rest was out
    → rest ≡ strip ++ rest' → length strip ≡ m → t' ≡ t + 1 → at ≡ t * width m → k ≡ width m → length line ≡ k → end ≡ ending n t → Group line 0 (length strip) strip 0 end
    → Written m n t' xs rest' was (put_mid at k out line)
written_more m n t t' at k xs rest strip rest' was out line end some size room w split chunk after there wide long e g =
    let cut : drop (t * m) xs ≡ strip ++ rest' = sym w.ahead ∙ split in
    let both = ap length cut ∙ length-append strip rest' in
    let before = strip_before m n t xs some size (omega arith) in
    let next = row_le t n (width m) before in
    let put = put_beside k at out line long (omega arith) in
    let inside = put_inside k at out line long (omega arith) in
    let same : (κ : ℕ) → κ < m → get_or strip κ 0 ≡ get_or xs (t * m + κ) 0 = λ κ h. sym (get_or_append_left strip rest' 0 κ (omega arith)) ∙ ap (λ l. get_or l κ 0) (sym cut) ∙ get_or-drop (t * m) xs κ 0 in
    subst (λ u. Written m n u xs rest' was (put_mid at k out line)) (sym after) record {
      before = omega arith;
      ahead = sym (drop_at strip rest' m chunk) ∙ ap (drop m) (sym cut) ∙ drop-drop m (t * m) xs ∙ ap (λ j. drop j xs) (let e : t * m + m ≡ (t + 1) * m = omega arith in e);
      text = below_more _ _ (λ j h. group_kept m xs (j * width m) (j * m) (ending n j) at (at + k) out _ (let r = row_le j t (width m) h in omega arith) put (w.text j h)) record {
        shown = λ κ h. ap (λ i. get_or (put_mid at k out line) (i + κ) 0) (sym there) ∙ inside κ (omega arith) ∙ simp zero-add at (g.shown κ (omega arith)) ∙ ap letter (same κ h);
        ended = ap (λ i. get_or (put_mid at k out line) (i + m) 0) (sym there) ∙ inside m (omega arith) ∙ ap (λ i. get_or line i 0) (let z : m ≡ 0 + length strip = omega arith in z) ∙ g.ended ∙ e;
      };
      beside = record { long = put.long ∙ w.beside.long; below = λ i h. absurd (omega arith); above = λ i h. put.above i (omega arith) ∙ w.beside.above i (omega arith) };
    }
