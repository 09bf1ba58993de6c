-- A frame that is written strip by strip: each strip leaves those before it, and all other frames, as they were.
-- Assumes nothing.
use Rattle.std.proofs.Common.{◌≡◌, ℕ, ◌+◌, ◌*◌, ◌<◌, ◌≤◌, ◌≢◌, List, get_or, refl, ◌∙◌, subst, ⊎_elim, arith, below_more}
use Rattle.medium.specs.Memory.{Beside, Filled}
use Rattle.medium.specs.Places.{strip_at}
use Rattle.medium.proofs.Places.{row_le, strip_after, strip_before, frames_apart}

-- the same bytes, by equal numbers
pub beside_moved : (xs ys : List ℕ) (at at' w w' : ℕ) → at' ≡ at → w' ≡ w → Beside xs ys at' (at' + w') → Beside xs ys at (at + w)
beside_moved xs ys at at' w w' ea ew b = subst (λ a. Beside xs ys a (a + w)) ea (subst (λ x. Beside xs ys at' (at' + x)) ew b)

module _ (n w f : ℕ) (P : ℕ → List ℕ → Type 0) where
  pub filled_none : (xs : List ℕ) → Filled n w f 0 P xs xs
  filled_none xs = record { strips = λ s h. absurd (omega arith); beside = record { long = refl; below = λ i h. refl; above = λ i h. refl } }

  -- one strip more, where a strip stays what it is while bytes above it change
  pub filled_more : (s : ℕ) (xs ys zs : List ℕ) → ((t lo hi : ℕ) → strip_at n w f t + w ≤ lo → Beside ys zs lo hi → P t ys → P t zs)
      → s < n → Filled n w f s P xs ys → P s zs → Beside ys zs (strip_at n w f s) (strip_at n w f s + w) → Filled n w f (s + 1) P xs zs
  filled_more s xs ys zs kept less old new put =
      let at = strip_at n w f s in
      let was = old.beside in
      let lo = strip_after f n w f s in
      let hi = strip_before f n w f s less in
      record {
        strips = below_more _ _ (λ t h. kept t at (at + w) (row_le (f * n + t) (f * n + s) w (omega arith)) put (old.strips t h)) new;
        beside = record {
          long = put.long ∙ was.long;
          below = λ i h. put.below i (omega arith) ∙ was.below i h;
          above = λ i h. put.above i (omega arith) ∙ was.above i h;
        };
      }

-- a byte p of another frame's strip
pub beside_apart : (n w f : ℕ) (xs ys : List ℕ) → Beside xs ys (f * n * w) ((f * n + n) * w) → (g s p : ℕ) → g ≢ f → s < n → strip_at n w g s ≤ p → p < strip_at n w g s + w → get_or ys p 0 ≡ get_or xs p 0
beside_apart n w f xs ys b g s p ne hs from to =
    let lo = strip_after f n w g s in
    let hi = strip_before f n w g s hs in
    ⊎_elim (λ h. b.below p (omega arith)) (λ h. b.above p (omega arith)) (frames_apart f n w f g ne)
