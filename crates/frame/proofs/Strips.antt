-- Lists of strips of m places: a strip is a part of the list, and what is written strip by strip. Assumes nothing.
use Rattle.std.proofs.Common.{◌≡◌, ℕ, ◌+◌, ◌-◌, ◌*◌, ◌/◌, ◌%◌, ◌<◌, ◌≤◌, Bor, Some, None, List, ◌++◌, length, get_or, take, drop, sym, ap, ◌∙◌, subst, inl, inr, mul-le-mul_right, mod-lt, suc-mul, div-lt_iff_lt-mul, mul-zero, div-add-mod', add-one, arith, length-append, length-drop}
use Rattle.std.proofs.lemmas.List.{take_at, drop_at, drop-drop}
use Rattle.std.specs.declared.slice.ChunksExact.{ChunksExact}
use Rattle.std.specs.Slice.Iter.{chunks_exact_rest, chunks_exact_size, chunks_exact_steps}
use borrow.Rule.Slice.PartMut.{put_mid}
use Rattle.std.proofs.lemmas.Bool.{cases_eq, cases_lt}
use Rattle.laws.specs.Ops.{Ops, power, sum}
use Rattle.refusal.specs.Codes.{Below}
use Rattle.solver.specs.Sums.{moment}
use Rattle.solver.proofs.Parts.{part, length_part, get_d_part, put_before, put_in, put_after, sum_cong}
use Rattle.frame.specs.Tables.{column}

pub strip_end : (m n j : ℕ) → j < n → j * m + m ≤ n * m
strip_end m n j l = let up = mul-le-mul_right m l in let e = suc-mul j m in omega arith

pub in_strip : (m n j h : ℕ) → j < n → h < m → j * m + h < n * m
in_strip m n j h l k = let e = strip_end m n j l in omega arith

pub next_strip : (m j : ℕ) → (j + 1) * m ≡ j * m + m
next_strip m j = rw (add-one j) (suc-mul j m)

pub part_size : (m n j : ℕ) (xs : List ℕ) → j < n → length xs ≡ n * m → length (part (j * m) (j * m + m) xs) ≡ m
part_size m n j xs l e = let s = strip_end m n j l in length_part (j * m) (j * m + m) xs (omega arith) ∙ (let d : j * m + m - j * m ≡ m = omega arith in d)

pub part_at : (m j : ℕ) (xs : List ℕ) (h : ℕ) → h < m → get_or (part (j * m) (j * m + m) xs) h 0 ≡ get_or xs (j * m + h) 0
part_at m j xs h l = get_d_part (j * m) (j * m + m) xs h (omega arith)

-- one strip more is written by f
pub strips_more : (f : ℕ → ℕ → ℕ) (m j : ℕ) (xs new : List ℕ) → j * m + m ≤ length xs → length new ≡ m → ((h : ℕ) → h < m → get_or new h 0 ≡ f j h)
    → ((i h : ℕ) → i < j → h < m → get_or xs (i * m + h) 0 ≡ f i h)
    → (i h : ℕ) → i < j + 1 → h < m → get_or (put_mid (j * m) (j * m + m - j * m) xs new) (i * m + h) 0 ≡ f i h
strips_more f m j xs new room size is before i h l lh = elim (cases_eq i j) [
  | inl q ↦ ap (λ k. get_or (put_mid (j * m) (j * m + m - j * m) xs new) (k * m + h) 0) q
      ∙ put_in (j * m) (j * m + m - j * m) xs new h (omega arith) (omega arith) ∙ is h lh ∙ ap (λ k. f k h) (sym q)
  | inr n ↦ (let s : i < j = omega arith in let e = in_strip m j i h s lh in
      put_before (j * m) (j * m + m - j * m) xs new (i * m + h) e (omega arith) ∙ before i h s lh)
]

-- and the strips behind it are as they were
pub strips_later : (m j : ℕ) (xs new : List ℕ) → j * m + m ≤ length xs → length new ≡ m → (p : ℕ) → (j + 1) * m ≤ p
    → get_or (put_mid (j * m) (j * m + m - j * m) xs new) p 0 ≡ get_or xs p 0
strips_later m j xs new room size p l = let e = next_strip m j in put_after (j * m) (j * m + m - j * m) xs new p (omega arith) (omega arith) (omega arith)

-- the power sums of a strip, by the strip's parts
pub part_moment : (F : Ops) (m n j : ℕ) (points xs : List ℕ) (h : ℕ) → j < n → length points ≡ n * m
    → moment F (part (j * m) (j * m + m) points) (part (j * m) (j * m + m) xs) h ≡ column F m points xs j h
part_moment F m n j points xs h l e =
    ap (λ k. sum F k (λ t. F.mul (get_or (part (j * m) (j * m + m) xs) t 0) (power F (get_or (part (j * m) (j * m + m) points) t 0) h))) (part_size m n j points l e)
    ∙ sum_cong F m (λ t. F.mul (get_or (part (j * m) (j * m + m) xs) t 0) (power F (get_or (part (j * m) (j * m + m) points) t 0) h))
    (λ κ. F.mul (get_or xs (j * m + κ) 0) (power F (get_or points (j * m + κ) 0) h))
    (λ t k. cc (part_at m j xs t k, part_at m j points t k))

pub part_below : (q m n j : ℕ) (xs : List ℕ) → j < n → length xs ≡ n * m → Below q xs → Below q (part (j * m) (j * m + m) xs)
part_below q m n j xs l e b i k =
    let s = part_size m n j xs l e in
    let r = in_strip m n j i l (omega arith) in
    rw (part_at m j xs i (omega arith)) (b (j * m + i) (omega arith))

-- every place is a square of a strip
pub by_place : (m n p : ℕ) → p < n * m → (P : ℕ → Type 0) → ((j h : ℕ) → j < n → h < m → P (j * m + h)) → P p
by_place m n p l P at = elim (cases_lt 0 m) [
  | inl pos ↦ subst P (div-add-mod' p m) (at (p / m) (p % m) ((div-lt_iff_lt-mul pos).1 l) (mod-lt p pos))
  | inr none ↦ absurd (let z : m ≡ 0 = omega arith in let y : n * m ≡ 0 = ap (λ t. n * t) z ∙ mul-zero n in omega arith)
]

-- an iterator over the chunks of m places of a list, before chunk k
pub record AtChunk (m k : ℕ) (xs : List ℕ) (s : ChunksExact ℕ) : Type 0 where
  pub size : chunks_exact_size s ≡ m
  pub left : chunks_exact_rest s ≡ drop (k * m) xs

module _ (m n k : ℕ) (xs : List ℕ) (s t : ChunksExact ℕ) (h : AtChunk m k xs s) (size : length xs ≡ n * m) where
  over : length (chunks_exact_rest s) ≡ length xs - k * m
  over = ap length h.left ∙ length-drop (k * m) xs

  -- the chunk that comes, and the iterator behind it
  pub chunk_turn : (x : Bor (List ℕ)) → 0 < m → chunks_exact_steps s (Some x) t → (k < n) × (x.now ≡ part (k * m) (k * m + m) xs) × AtChunk m (k + 1) xs t
  chunk_turn x some step =
      let long : length x.now ≡ m = step.1.1 ∙ h.size in
      let rest : x.now ++ chunks_exact_rest t ≡ drop (k * m) xs = sym step.1.0 ∙ h.left in
      let width : k * m + m - k * m ≡ m = omega arith in (
        elim (cases_lt k n) [
          | inl l ↦ l
          | inr l ↦ (let up = mul-le-mul_right m l in let o = over in let both = ap length step.1.0 ∙ length-append x.now (chunks_exact_rest t) in absurd (omega arith))
        ],
        sym (take_at x.now (chunks_exact_rest t) m long) ∙ ap (take m) rest ∙ ap (λ i. take i (drop (k * m) xs)) (sym width),
        record {
          size = step.0 ∙ h.size;
          left = sym (drop_at x.now (chunks_exact_rest t) m long) ∙ ap (drop m) rest ∙ drop-drop m (k * m) xs ∙ ap (λ i. drop i xs) (sym (next_strip m k));
        },
      )

  -- where no chunk comes, all have come
  pub chunk_end : k ≤ n → chunks_exact_steps s None t → k ≡ n
  chunk_end most step = elim (cases_lt k n) [
    | inl l ↦ (let e = strip_end m n k l in let o = over in let z = h.size in let short = step.1.0 in absurd (omega arith))
    | inr l ↦ omega arith
  ]
