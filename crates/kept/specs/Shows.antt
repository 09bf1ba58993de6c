-- What a frame of a medium shows.
--   unclear    whether a square is doubtful
--   code_on    the code that a clear square shows
--   shown_of   what frame f of a meaning shows: which strips are gone, and what stands at each place of the others
--   Shows      no strip of frame f is gone, and each square is clear, coded as in the array
--   Agree      two showings of n strips of m squares say the same of every strip, and of every square of a strip that is there
--   Noted      a look at a square, noted down: whether its strip is gone, whether it is doubtful, and its code
-- Assumes nothing.
use Rattle.std.specs.Prelude.{◌≡◌, ℕ, ◌+◌, ◌*◌, ◌/◌, ◌%◌, ◌<◌, Bool, true, false, List, slice_index}
use Rattle.algebra.specs.Showings.{Showing}
use Rattle.medium.specs.declared.medium.Look.{Look}
use Rattle.medium.specs.declared.medium.Look.TheVariants.{Gone, Doubtful, Clear}
use Rattle.medium.specs.Meaning.{Meaning, Square, doubtful, clear}

abbrev pub unclear : Square → Bool
unclear doubtful = true
unclear (clear c) = false

abbrev pub code_on : Square → ℕ
code_on doubtful = 0
code_on (clear c) = c

unfoldable pub shown_of : Meaning → ℕ → Showing
shown_of w f = record {
  gone = w.gone f;
  doubtful = λ p. unclear (w.square f (p / w.squares) (p % w.squares));
  shown = λ p. code_on (w.square f (p / w.squares) (p % w.squares));
}

pub record Shows (w : Meaning) (f : ℕ) (xs : List ℕ) : Type 0 where
  pub present : (s : ℕ) → s < w.strips → w.gone f s ≡ false
  pub coded : (s k : ℕ) → s < w.strips → k < w.squares → w.square f s k ≡ clear (slice_index xs (s * w.squares + k))

pub record Agree (m n : ℕ) (v w : Showing) : Type 0 where
  pub gone : (j : ℕ) → j < n → v.gone j ≡ w.gone j
  pub doubtful : (p : ℕ) → p < n * m → v.gone (p / m) ≡ false → v.doubtful p ≡ w.doubtful p
  pub shown : (p : ℕ) → p < n * m → v.gone (p / m) ≡ false → v.doubtful p ≡ false → v.shown p ≡ w.shown p

abbrev pub Noted : Look → Bool → Bool → ℕ → Type 0
Noted Gone gone doubt code = gone ≡ true
Noted Doubtful gone doubt code = (gone ≡ false) × (doubt ≡ true)
Noted (Clear c) gone doubt code = (gone ≡ false) × (doubt ≡ false) × (code ≡ c)
