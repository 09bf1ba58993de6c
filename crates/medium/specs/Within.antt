-- A meaning from what is read at the places that there are.
--   Reading   for each frame whether it is open, for each strip whether it is gone, and each square, at places that there are
--   bounded   a square whose code, if it is not below the levels, counts as doubtful
--   within    the meaning that reads so at the places within the counts, and has its fixed values elsewhere
-- Assumes nothing.
use Rattle.std.specs.Prelude.{ℕ, Bool, true, false, cond, nat_lt}
use Rattle.medium.specs.Meaning.{Meaning, Square, doubtful, clear}

pub record Reading : Type 0 where
  pub unlocked : ℕ → Bool
  pub gone : ℕ → ℕ → Bool
  pub square : ℕ → ℕ → ℕ → Square

abbrev pub bounded : ℕ → Square → Square
bounded l doubtful = doubtful
bounded l (clear c) = cond (nat_lt c l) (clear c) doubtful

abbrev pub gone_within : ℕ → ℕ → Reading → ℕ → ℕ → Bool
gone_within fs n v f s = cond (nat_lt f fs) (cond (nat_lt s n) (v.gone f s) true) true

abbrev pub square_within : ℕ → ℕ → ℕ → ℕ → Reading → ℕ → ℕ → ℕ → Square
square_within fs n m l v f s k = cond (gone_within fs n v f s) doubtful (cond (nat_lt k m) (bounded l (v.square f s k)) doubtful)

-- fs frames, n strips, m squares, l levels
abbrev pub within : ℕ → ℕ → ℕ → ℕ → Reading → Meaning
within fs n m l v = record {
  frames = fs;
  strips = n;
  squares = m;
  levels = l;
  unlocked = λ f. cond (nat_lt f fs) (v.unlocked f) false;
  gone = λ f s. gone_within fs n v f s;
  square = λ f s k. square_within fs n m l v f s k;
}
