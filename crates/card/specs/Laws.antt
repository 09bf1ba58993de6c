-- A strip of a card reads, and holds codes, by its own characters. Assumes nothing.
use Rattle.std.proofs.Common.{◌≡◌, ℕ, ◌+◌, ◌<◌, not, eqb, List, get_or, sym, ap, ◌∙◌, arith}
use Rattle.memory.specs.Plan.{Alike, Laws}
use Rattle.memory.proofs.Tested.{every_fails, every_same}
use Rattle.card.specs.Alphabet.{value_of, letter, is_letter}
use Rattle.card.specs.Layout.{width, square_of, card_plan}
use Rattle.card.specs.Letters.{letter_value, letter_is}
use Rattle.card.specs.Stored.{Line}

module _ (m : ℕ) (xs : List ℕ) (at : ℕ) (ys : List ℕ) (bt : ℕ) (same : Alike (width m) xs at ys bt) where
  character : (k : ℕ) → k < m → get_or xs (at + k) 0 ≡ get_or ys (bt + k) 0
  character k h = same.each k (omega arith)

  held : (codes : List ℕ) (from : ℕ) (ds : List ℕ) (to : ℕ) → Alike m codes from ds to → Line xs at m codes from → Line ys bt m ds to
  held codes from ds to even l = record {
    shown = λ k h. sym (character k h) ∙ l.shown k h ∙ ap letter (even.each k h);
    newline = sym (same.each m (omega arith)) ∙ l.newline;
  }

pub card_laws : Laws card_plan Line
card_laws = record {
  levels_least = omega arith;
  levels_most = omega arith;
  width_most = λ m h. omega arith;
  gone_alone = λ m xs at ys bt same. every_same m (λ k. not (is_letter (get_or xs (at + k) 0))) (λ k. not (is_letter (get_or ys (bt + k) 0))) (λ k h. ap (λ x. not (is_letter x)) (character m xs at ys bt same k h));
  square_alone = λ m xs at ys bt k same h. ap (λ x. square_of (value_of x)) (character m xs at ys bt same k h);
  writable_alone = λ m xs at ys bt same. every_same m (λ k. eqb (get_or xs (at + k) 0) 32) (λ k. eqb (get_or ys (bt + k) 0) 32) (λ k h. ap (λ x. eqb x 32) (character m xs at ys bt same k h));
  holds_alone = λ m xs at ys bt codes from ds to same even l. held m xs at ys bt same codes from ds to even l;
  held_there = λ m xs at codes from some below l. every_fails m 0 (λ k. not (is_letter (get_or xs (at + k) 0))) (omega arith) (ap (λ x. not (is_letter x)) (l.shown 0 (omega arith)) ∙ ap not (letter_is (get_or codes (from + 0) 0) (below 0 (omega arith))));
  held_shown = λ m xs at codes from k h below l. ap (λ x. square_of (value_of x)) (l.shown k h) ∙ ap square_of (letter_value (get_or codes (from + k) 0) below);
}
