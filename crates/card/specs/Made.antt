-- What a card shows when it is made: over bytes as they stand, and fresh; and what a writing leaves. Assumes nothing.
use Rattle.std.proofs.Common.{◌≡◌, ℕ, ◌+◌, ◌*◌, ◌<◌, true, false, cond, eqb, ltb, List, length, get_or, refl, ap, ◌∙◌, arith}
use Rattle.std.proofs.lemmas.Nat.{mod-mul-add}
use Rattle.std.proofs.lemmas.Bool.{lt-ltb, eq-eqb, ne_eqb}
use Rattle.medium.specs.Counts.{Shape}
use Rattle.medium.specs.declared.counts.Counts.{Counts}
use Rattle.medium.specs.Meaning.{doubtful}
use Rattle.medium.specs.Places.{size_of, strip_at}
use Rattle.medium.specs.Within.{bounded}
use Rattle.medium.proofs.Places.{strip_inside}
use Rattle.medium.proofs.Inside.{gone_there, open_there}
use Rattle.card.specs.Alphabet.{value_of}
use Rattle.card.specs.Layout.{width, char_at, square_of, strip_gone, strip_blank, frame_blank, fresh_byte, card_plan, card_reads, card_shows}
use Rattle.card.specs.Make.{Laid, AllOpen}
use Rattle.card.specs.Letters.{bounded_letter}
use Rattle.card.specs.Stored.{Line, Stored}
use Rattle.memory.specs.Shows.{Stored as stored_by}
use Rattle.memory.proofs.Tested.{every_holds}

-- what a writing on a card promises, in the card's own words
pub stored_lines : (c : Shape) (f : ℕ) (codes xs ys : List ℕ) → stored_by card_plan Line c f codes xs ys ≡ Stored c.strips c.squares f codes xs ys
stored_lines c f codes xs ys = refl

module _ (c : Counts) (xs : List ℕ) (long : length xs ≡ size_of c.frames c.strips (width c.squares)) where
  fit : eqb (length xs) (size_of c.frames c.strips (width c.squares)) ≡ true
  fit = eq-eqb (length xs) (size_of c.frames c.strips (width c.squares)) long

  opens : (f : ℕ) → f < c.frames → (card_shows c xs).unlocked f ≡ frame_blank c.strips c.squares xs f
  opens f h =
      open_there c.frames c.strips c.squares 37 (card_reads c.frames c.strips c.squares xs) f h
      ∙ ap (λ b. cond b (frame_blank c.strips c.squares xs f) false) fit

  pub card_laid : Laid c xs (card_shows c xs)
  card_laid = record {
    frames = refl;
    strips = refl;
    squares = refl;
    levels = refl;
    unlocked = opens;
    gone = λ f s hf hs. gone_there c.frames c.strips c.squares 37 (card_reads c.frames c.strips c.squares xs) f s hf hs ∙ ap (λ b. cond b (strip_gone xs (strip_at c.strips (width c.squares) f s) c.squares) true) fit;
    square = λ f s k hf hs hk there. let b = get_or xs (char_at c.strips c.squares f s k) 0 in let q = bounded 37 (square_of (value_of b)) in ap (λ t. cond t doubtful (cond (ltb k c.squares) q doubtful)) there ∙ ap (λ t. cond t q doubtful) (lt-ltb k c.squares hk) ∙ bounded_letter b;
  }

  -- each character of a fresh card is a space
  space : ((i : ℕ) → i < length xs → get_or xs i 0 ≡ fresh_byte c.squares i) → (f s k : ℕ) → f < c.frames → s < c.strips → k < c.squares → get_or xs (char_at c.strips c.squares f s k) 0 ≡ 32
  space bytes f s k hf hs hk =
      let m = c.squares in
      let w = width m in
      let fits = strip_inside c.frames c.strips w f s hf hs in
      bytes (char_at c.strips m f s k) (omega arith)
      ∙ ap (λ x. cond (eqb x m) 10 32) (mod-mul-add (f * c.strips + s) w k (omega arith))
      ∙ ap (λ b. cond b 10 32) (ne_eqb k m (λ e. omega arith))

  pub card_fresh : ((i : ℕ) → i < length xs → get_or xs i 0 ≡ fresh_byte c.squares i) → AllOpen (card_shows c xs)
  card_fresh bytes f hf =
      opens f hf
      ∙ every_holds c.strips (λ s. strip_blank xs (strip_at c.strips (width c.squares) f s) c.squares) (λ s hs. every_holds c.squares (λ k. eqb (get_or xs (strip_at c.strips (width c.squares) f s + k) 0) 32) (λ k hk. eq-eqb (get_or xs (strip_at c.strips (width c.squares) f s + k) 0) 32 (space bytes f s k hf hs hk)))
