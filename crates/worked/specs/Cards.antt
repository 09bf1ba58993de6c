-- What stands on a card, as text: 0 to 9, A to Z for 10 to 35, * for 36, - for a square of a strip that is gone, ? for a doubtful
-- square. Strips may be set apart by spaces.
--   character   the code of a character
--   unspaced    the characters but the spaces
--   coded       the codes of characters
--   written     the codes of a text
--   pictured    what a text shows, with m squares in a strip
-- Assumes nothing.
use Rattle.std.specs.Prelude.{cond, List, [], ◌∷◌, ℕ, ◌-◌, ◌*◌, codes, eqb, ltb, get_or}
use Prim.Native.String.{String}
use Rattle.algebra.specs.Showings.{Showing}

abbrev pub character : ℕ → ℕ
character k = cond (eqb k 42) 36 (cond (ltb k 58) (k - 48) (k - 55))

abbrev pub unspaced : List ℕ → List ℕ
unspaced [] = []
unspaced (k ∷ ks) = cond (eqb k 32) (unspaced ks) (k ∷ unspaced ks)

abbrev pub coded : List ℕ → List ℕ
coded [] = []
coded (k ∷ ks) = character k ∷ coded ks

abbrev pub written : String → List ℕ
written text = coded (unspaced (codes text))

abbrev pub pictured : ℕ → String → Showing
pictured m text =
    let ks = unspaced (codes text) in
    record { gone = λ j. eqb (get_or ks (j * m) 0) 45; doubtful = λ p. eqb (get_or ks p 0) 63; shown = λ p. character (get_or ks p 0) }
