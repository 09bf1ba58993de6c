-- What a writing does.
--   LeftFree    nothing is asked of a value: the label of what the contract leaves to the medium
--   Written     w is v with codes written as frame f, strip by strip
--   no_write    why a writing is refused, in this order
--   Writes      a writing on v answers r and leaves w
-- Assumes nothing.
use Rattle.std.specs.Prelude.{◌≡◌, ℕ, ◌+◌, ◌*◌, ◌<◌, ◌≤◌, Bool, false, ◌≢◌, List, [], ◌∷◌, length, Ok, Result, slice_index}
use Rattle.refusal.specs.declared.Refusal.{Refusal}
use Rattle.refusal.specs.declared.Refusal.TheVariants.{NoSuchPlace, WrongLength, BadSymbol, Closed}
use Rattle.refusal.specs.Codes.{Below}
use Rattle.refusal.specs.Outcome.{Cause, Outcome}
use Rattle.medium.specs.Meaning.{Meaning, clear, SameShape}

abbrev pub LeftFree : Bool → Type 0
LeftFree b = Unit {0}

pub record Written (v : Meaning) (f : ℕ) (codes : List ℕ) (w : Meaning) : Type 0 where
  pub shape : SameShape v w
  pub present : (s : ℕ) → s < v.strips → w.gone f s ≡ false
  pub codes_there : (s k : ℕ) → s < v.strips → k < v.squares → w.square f s k ≡ clear (slice_index codes (s * v.squares + k))
  -- The one exception: whether the written frame is open afterwards is for the medium to say.
  pub open_after : LeftFree (w.unlocked f)
  pub others_open : (g : ℕ) → g ≢ f → w.unlocked g ≡ v.unlocked g
  pub others_gone : (g : ℕ) → g ≢ f → w.gone g ≡ v.gone g
  pub others_square : (g : ℕ) → g ≢ f → w.square g ≡ v.square g

abbrev pub no_write : Meaning → ℕ → List ℕ → List Cause
no_write v f codes =
    (NoSuchPlace, v.frames ≤ f)
    ∷ (WrongLength, length codes ≢ v.strips * v.squares)
    ∷ (BadSymbol, (Below v.levels codes → ⊥))
    ∷ (Closed, v.unlocked f ≡ false)
    ∷ []

abbrev pub Writes : Meaning → ℕ → List ℕ → Result (Unit {0}) Refusal → Meaning → Type 0
Writes v f codes r w = Outcome (no_write v f codes) (w ≡ v) ((r ≡ Ok tt) × Written v f codes w) r
