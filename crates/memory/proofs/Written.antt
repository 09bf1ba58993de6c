-- A frame that is written strip by strip: each strip is left as the next are written. Assumes nothing.
use Rattle.std.proofs.Common.{ℕ, ◌+◌, ◌*◌, ◌<◌, List, sym, refl, arith}
use Rattle.medium.specs.Memory.{Beside, Filled}
use Rattle.medium.specs.Counts.{Shape}
use Rattle.medium.proofs.Filling.{filled_more}
use Rattle.memory.specs.Plan.{Plan, Alike, Laws}
use Rattle.memory.specs.Shows.{place, strip_of}

module _ (p : Plan) (H : List ℕ → ℕ → ℕ → List ℕ → ℕ → Type 0) (laws : Laws p H) (c : Shape) (f : ℕ) (codes : List ℕ) where
  -- one strip more
  pub strips_more : (s : ℕ) (xs ys zs part : List ℕ) → Alike c.squares part 0 codes (s * c.squares) → s < c.strips → Filled c.strips (p.width c.squares) f s (strip_of p H c f codes) xs ys → H zs (place p c f s) c.squares part 0
      → Beside ys zs (place p c f s) (place p c f s + p.width c.squares) → Filled c.strips (p.width c.squares) f (s + 1) (strip_of p H c f codes) xs zs
  strips_more s xs ys zs part same less old held put =
      filled_more c.strips (p.width c.squares) f (strip_of p H c f codes) s xs ys zs
      (λ t lo hi h b. laws.holds_alone c.squares ys (place p c f t) zs (place p c f t) codes (t * c.squares) codes (t * c.squares) (record { each = λ i l. sym (b.below (place p c f t + i) (omega arith)) }) (record { each = λ i l. refl }))
      less old
      (laws.holds_alone c.squares zs (place p c f s) zs (place p c f s) part 0 codes (s * c.squares) (record { each = λ i l. refl }) same held)
      put
