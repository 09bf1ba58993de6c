-- Two frames that fit one showing are one frame: where they differ is few strips and few squares more. Assumes nothing.
use Rattle.std.proofs.Common.{◌≡◌, ℕ, ◌-◌, ◌*◌, ◌/◌, ◌<◌, ◌≤◌, Bool, true, false, not, ◌&&◌, ◌||◌, eqb, leb, List, get_or, take, sym, ap, ◌∙◌, div-lt_iff_lt-mul, arith, get_or-take}
use Prim.Native.Nat.{Fin}
use Rattle.std.proofs.lemmas.Bool.{or_parts, eqb-true, leb-false, not-false}
use Rattle.std.proofs.lemmas.List.{ext_get_or}
use Rattle.laws.specs.Ops.{Ops, Laws}
use Rattle.algebra.specs.Frames.{IsFrame, record_size}
use Rattle.algebra.specs.Showings.{reading, count, doubt, silent}
use Rattle.algebra.specs.Statements.{FrameUnique, FitUnique, RecordsApart}
use Rattle.algebra.proofs.Counting.{count_or, count_from}
use Rattle.algebra.proofs.Ring.{equal, less_self}
use Rattle.algebra.proofs.Dual.{Balanced, difference, in_strips, unique}
use Rattle.algebra.proofs.Codes.{codes, a, a_apart, β_apart, at, balanced}

module _ (F : Ops) (L : Laws F) (m n c : ℕ) (pos : 0 < m) (room : n * m < F.order) (xs ys : List ℕ) (f : IsFrame F m n c xs) (f' : IsFrame F m n c ys) where
  abbrev b : ℕ → Fin F.order
  b = a F L m n c pos room

  -- how the two frames differ, on the field's own type
  abbrev error : ℕ → Fin F.order
  error p = (codes F L).◌⊕◌ (at F L xs f.codes p) ((codes F L).⊖◌ (at F L ys f'.codes p))

  same_code : (p : ℕ) → get_or xs p 0 ≡ get_or ys p 0 → error p ≡ (codes F L).𝟘
  same_code p e = less_self (codes F L) (at F L xs f.codes p) (at F L ys f'.codes p) (native.Mathlib.Fin.val_path e)

  error_balanced : Balanced (codes F L) n m c b b error
  error_balanced = difference (codes F L) n m c b b (at F L xs f.codes) (at F L ys f'.codes) (balanced F L m n c pos room xs f) (balanced F L m n c pos room ys f')

  joined : ((p : ℕ) → p < n * m → error p ≡ (codes F L).𝟘) → xs ≡ ys
  joined h = ext_get_or 0 xs ys (f.size ∙ sym f'.size)
      (λ p l. ap (λ z. z.0) (equal (codes F L) (at F L xs f.codes p) (at F L ys f'.codes p) (h p (omega (arith, f.size)))))

  -- two frames that are equal but for fewer than c strips and m squares more
  pub same_frames : (A N : ℕ → Bool) → count n A < c → count (n * m) N ≤ m
      → ((p : ℕ) → p < n * m → A (p / m) ≡ false → N p ≡ false → get_or xs p 0 ≡ get_or ys p 0) → xs ≡ ys
  same_frames A N few_a few_n only = joined (unique (codes F L) n m c b b pos (a_apart F L m n c pos room) (β_apart F L m n c pos room) error error_balanced
      A N few_a few_n (λ p l q r. same_code p (only p l q r)))

  -- two frames that are equal but for c strips
  pub same_beside : (A : ℕ → Bool) → count n A ≤ c → ((p : ℕ) → p < n * m → A (p / m) ≡ false → get_or xs p 0 ≡ get_or ys p 0) → xs ≡ ys
  same_beside A few only = joined (in_strips (codes F L) n m c b b pos (a_apart F L m n c pos room) (β_apart F L m n c pos room) error error_balanced
      A few (λ p l q. same_code p (only p l q)))

-- what is neither doubtful nor silent in a strip that is neither gone nor wrong is as shown
pub as_shown : (g h d e : Bool) → g ≡ false → h ≡ false → (not g && d) ≡ false → (not h && (not g && (not d && not e))) ≡ false → e ≡ true
as_shown g h d e p q r s = let n : d ≡ false = cc in not-false e cc

pub fit_unique : FitUnique
fit_unique F L m n c rule limit w xs ys f f' p p' =
    same_frames F L m n c rule.0 rule.3 xs ys f f' A N
    (omega (arith, count_or n w.gone (λ j. p.wrong j || p'.wrong j), count_or n p.wrong p'.wrong, p.strips, p'.strips))
    (omega (arith, count_or (n * m) (doubt m w) (λ s. B s || B' s), count_or (n * m) B B', p.squares, p'.squares))
    (λ s l q r.
    let q' = or_parts (w.gone (s / m)) (p.wrong (s / m) || p'.wrong (s / m)) q in
    let h = or_parts (p.wrong (s / m)) (p'.wrong (s / m)) q'.1 in
    let r' = or_parts (doubt m w s) (B s || B' s) r in
    let b = or_parts (B s) (B' s) r'.1 in
    eqb-true (get_or xs s 0) (w.shown s) (as_shown (w.gone (s / m)) (p.wrong (s / m)) (w.doubtful s) (eqb (get_or xs s 0) (w.shown s)) q'.0 h.0 r'.0 b.0)
    ∙ sym (eqb-true (get_or ys s 0) (w.shown s) (as_shown (w.gone (s / m)) (p'.wrong (s / m)) (w.doubtful s) (eqb (get_or ys s 0) (w.shown s)) q'.0 h.1 r'.0 b.1)))
  where
    B : ℕ → Bool
    B = silent m w p.wrong xs

    B' : ℕ → Bool
    B' = silent m w p'.wrong ys

    A : ℕ → Bool
    A j = w.gone j || (p.wrong j || p'.wrong j)

    N : ℕ → Bool
    N s = doubt m w s || (B s || B' s)

pub records_apart : RecordsApart
records_apart F L m n c rule limit w rec sec xs ys f f' p p' =
    sym f.begins ∙ ap (take (record_size m n c)) (fit_unique F L m n c rule limit (reading F.order w) xs ys f.frame f'.frame p p') ∙ f'.begins

pub frame_unique : FrameUnique
frame_unique F L m n c rule symbols xs ys f f' =
    same_beside F L m n c rule.0 rule.3 xs ys f.frame f'.frame (leb (n - c)) (omega (arith, count_from (n - c) n, rule.2)) (λ s _ h. front s (leb-false (n - c) (s / m) h))
  where
    front : (s : ℕ) → s / m < n - c → get_or xs s 0 ≡ get_or ys s 0
    front s h =
        let l : s < record_size m n c = (div-lt_iff_lt-mul rule.0).0 h in
        sym (get_or-take (record_size m n c) xs s 0 l) ∙ ap (λ zs. get_or zs s 0) (f.begins ∙ sym f'.begins) ∙ get_or-take (record_size m n c) ys s 0 l
