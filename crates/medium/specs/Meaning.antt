-- What a medium means: its counts, and what stands in each of its frames.
--   Square       what a square of a strip that is not gone is: doubtful, or clear with a code
--   Meaning      the counts and levels; for each frame whether it is open, for each strip whether it is gone, and each square
--   look_on      a square as it looks
--   look_at      how strip s, square k of frame f looks
--   look_of      what looking answers
--   open_of      what asking whether a frame is open answers
--   showing      how the squares of a frame look, strip by strip
--   SameShape    the counts and the levels are the same
--   Worn         what wear may do: anything that keeps the counts and the levels
-- Assumes nothing.
use Rattle.std.specs.Prelude.{◌≡◌, ℕ, ◌*◌, ◌/◌, ◌%◌, Bool, cond, List, map, Ok, Err, Result, nat_lt}
use Rattle.std.specs.List.{range_with_len}
use Rattle.refusal.specs.declared.Refusal.{Refusal}
use Rattle.refusal.specs.declared.Refusal.TheVariants.{NoSuchPlace}
use Rattle.medium.specs.declared.medium.Look.{Look}
use Rattle.medium.specs.declared.medium.Look.TheVariants.{Gone, Doubtful, Clear}

pub data Square : Type 0 where
  doubtful : Square
  clear : ℕ → Square

pub record Meaning : Type 0 where
  pub frames : ℕ
  pub strips : ℕ
  pub squares : ℕ
  pub levels : ℕ
  -- of a frame
  pub unlocked : ℕ → Bool
  -- of a frame's strip
  pub gone : ℕ → ℕ → Bool
  -- of a strip's square
  pub square : ℕ → ℕ → ℕ → Square

abbrev pub look_on : Square → Look
look_on doubtful = Doubtful
look_on (clear c) = Clear c

abbrev pub look_at : Meaning → ℕ → ℕ → ℕ → Look
look_at w f s k = cond (w.gone f s) Gone (look_on (w.square f s k))

abbrev pub look_of : Meaning → ℕ → ℕ → ℕ → Result Look Refusal
look_of w f s k =
    cond (nat_lt f w.frames) (cond (nat_lt s w.strips) (cond (nat_lt k w.squares) (Ok (look_at w f s k)) (Err NoSuchPlace)) (Err NoSuchPlace)) (Err NoSuchPlace)

abbrev pub open_of : Meaning → ℕ → Result Bool Refusal
open_of w f = cond (nat_lt f w.frames) (Ok (w.unlocked f)) (Err NoSuchPlace)

unfoldable pub showing : Meaning → ℕ → List Look
showing w f = map (λ p. look_at w f (p / w.squares) (p % w.squares)) (range_with_len 0 (w.strips * w.squares))

pub record SameShape (v w : Meaning) : Type 0 where
  pub frames : w.frames ≡ v.frames
  pub strips : w.strips ≡ v.strips
  pub squares : w.squares ≡ v.squares
  pub levels : w.levels ≡ v.levels

abbrev pub Worn : Meaning → Meaning → Type 0
Worn v w = SameShape v w
