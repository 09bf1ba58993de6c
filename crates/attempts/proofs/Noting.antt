-- The doubtful squares, and these with one clear square more, for one attempt; what the attempts answer together. Assumes nothing.
use Rattle.std.proofs.Common.{◌≡◌, ℕ, ◌+◌, ◌*◌, ◌<◌, ◌≤◌, true, false, ◌⊎◌, List, [], ◌∷◌, ◌++◌, length, map, take, set, is_some, Some, None, Option, sym, refl, ap, ◌∙◌, subst, inl, inr, arith, MatchOption}
use Rattle.std.proofs.lemmas.Bool.{true≢false}
use Rattle.std.proofs.lemmas.List.{length-append, length-map, get_or-map, take_at}
use Rattle.std.proofs.lemmas.Grind.{take-set_at}
use Rattle.laws.specs.Ops.{Ops}
use Rattle.algebra.specs.Frames.{square_locator, IsFrame}
use Rattle.algebra.specs.Showings.{Showing, doubtful_squares, Fits}
use Rattle.attempts.specs.declared.attempt.Fit.{Fit}
use Rattle.correction.specs.Tries.{clear, Covers, Doubted, Missed, Readout}
use Rattle.correction.proofs.Lists.{doubted_covers, more_covers, more_listed}
use Rattle.correction.proofs.Silent.{fit_tried}
use Rattle.candidates.specs.Chosen.{Chosen}
use Rattle.attempts.specs.Attempts.{HitBy, Tried, Searched, Answered}

-- what an attempt says of one square that its list covers
pub tried_at : (F : Ops) (limit m n c : ℕ) (w : Showing) (base squares : List ℕ) (r : Option Fit) → Tried F limit m n c w base squares r → (extra : ℕ) → Covers m n w extra squares
    → MatchOption r (Missed F limit m n c w base extra) (HitBy F limit m n c w)
tried_at F limit m n c w base squares None h extra covers = h extra covers
tried_at F limit m n c w base squares (Some fit) h extra covers = h

-- the doubtful squares may be listed for an attempt
pub doubted_chosen : (m n : ℕ) (w : Showing) (squares : List ℕ) → Doubted m n w squares → length squares ≤ m → Chosen m n squares
doubted_chosen m n w squares doubted few = record { few = few; places = doubted.places; apart = doubted.apart }

-- and so they may with one clear square more
module _ (m n : ℕ) (w : Showing) (doubtful : List ℕ) (doubted : Doubted m n w doubtful) (square : ℕ) (there : square < n * m) (sure : clear m w square ≡ true) (F : Ops) where
  -- a list with a place for it
  abbrev room : List ℕ
  room = doubtful ++ 0 ∷ []

  size : length room ≡ length doubtful + 1
  size = length-append doubtful (0 ∷ [])

  front : take (length doubtful) room ≡ doubtful
  front = take_at doubtful (0 ∷ []) (length doubtful) refl

  filled : take (length doubtful + 1) (set room (length doubtful) square) ≡ doubtful ++ square ∷ []
  filled = take-set_at room (length doubtful) (length doubtful + 1) square refl (omega (arith, size)) ∙ ap (λ zs. zs ++ square ∷ []) front

  pub more_chosen : length doubtful < m → Chosen m n (doubtful ++ square ∷ [])
  more_chosen few =
      let points = map (square_locator F) room in
      let listed = more_listed m n w F room points (length doubtful) (omega (arith, size)) (subst (λ (zs : List ℕ). Doubted m n w zs) (sym front) doubted) square (square_locator F square)
      (omega (arith, size)) there sure (omega arith) (omega (arith, size, length-map room (square_locator F))) refl (λ i l. get_or-map (square_locator F) room i 0 0 (omega (arith, size))) in
      subst (λ (zs : List ℕ). Chosen m n zs) filled (record { few = listed.few; places = listed.places; apart = listed.apart })

  pub covers_more : Covers m n w square (doubtful ++ square ∷ [])
  covers_more = subst (λ (zs : List ℕ). Covers m n w square zs) filled
      (more_covers m n w F room room (length doubtful) (omega (arith, size)) (subst (λ (zs : List ℕ). Doubted m n w zs) (sym front) doubted) square 0 (omega (arith, size)) there sure)

-- no attempt hit
pub none_fits : (F : Ops) (limit m n c : ℕ) (w : Showing) (base : List ℕ) → limit ≤ 1 → Readout m n w base → Missed F limit m n c w base (n * m)
    → (2 + doubtful_squares m n w ≤ m → (p : ℕ) → p < n * m → clear m w p ≡ true → Missed F limit m n c w base p)
    → (ys : List ℕ) → IsFrame F m n c ys → Fits limit m n c w ys → ⊥
none_fits F limit m n c w base one read none each ys frame fits = fit_tried F m n c w base ys read frame limit one fits none each

pub none_of : (r : Option Fit) → is_some r ≡ false → r ≡ None
none_of None e = refl
none_of (Some fit) e = absurd (true≢false e)

module _ (F : Ops) (limit : ℕ) (one : limit ≤ 1) (m n c : ℕ) (w : Showing) (base : List ℕ) (read : Readout m n w base) (doubtful : List ℕ) (doubted : Doubted m n w doubtful) where
  -- no silent square, or no room for one
  pub answered_early : (r : Option Fit) → Tried F limit m n c w base doubtful r → (is_some r ≡ true) ⊎ (m < 2 + length doubtful) → Answered F limit m n c w r
  answered_early None h (inl e) = absurd (true≢false (sym e))
  answered_early None h (inr l) = none_fits F limit m n c w base one read (h (n * m) (doubted_covers m n w doubtful doubted)) (λ k p _ _. absurd (omega (arith, doubted.number)))
  answered_early (Some fit) h e = h

  pub answered_late : (first : Option Fit) → Tried F limit m n c w base doubtful first → is_some first ≡ false
      → (r : Option Fit) → Searched F limit m n c w base (n * m) r → Answered F limit m n c w r
  answered_late None h e None s = none_fits F limit m n c w base one read (h (n * m) (doubted_covers m n w doubtful doubted)) (λ k. s)
  answered_late None h e (Some fit) s = s
  answered_late (Some fit) h e r s = absurd (true≢false e)
