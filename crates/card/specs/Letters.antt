-- The alphabet: a code's character reads as that code, and every code that a byte stands for is below 37. By the tests of ranges.
-- Assumes nothing.
use Rattle.std.proofs.Common.{◌≡◌, ℕ, ◌<◌, true, cond, is_some, Some, None, Option, refl, ap, rules}
use Rattle.std.proofs.lemmas.Bool.{lt-ltb}
use Rattle.medium.specs.Meaning.{doubtful, clear}
use Rattle.medium.specs.Within.{bounded}
use Rattle.card.specs.Alphabet.{value_of, letter, is_letter}
use Rattle.card.specs.Layout.{square_of}

pub letter_value : (c : ℕ) → c < 37 → value_of (letter c) ≡ Some c
letter_value c h = search rules

pub value_below : (b c : ℕ) → value_of b ≡ Some c → c < 37
value_below b c e = search rules

pub letter_is : (c : ℕ) → c < 37 → is_letter (letter c) ≡ true
letter_is c h = ap is_some (letter_value c h)

-- a card's codes are all below its levels
pub bounded_letter : (b : ℕ) → bounded 37 (square_of (value_of b)) ≡ square_of (value_of b)
bounded_letter b = by (value_of b) (λ c e. value_below b c e)
  where
    by : (o : Option ℕ) → ((c : ℕ) → o ≡ Some c → c < 37) → bounded 37 (square_of o) ≡ square_of o
    by (Some c) h = ap (λ t. cond t (clear c) doubtful) (lt-ltb c 37 (h c refl))
    by None h = refl
