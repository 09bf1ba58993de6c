-- The worked cards: each by a computed test, and that no record fits by one test at every record, since frames are sums of
-- multiples of two. Assumes nothing.
use mathlib.Core.Path.{◌≡◌, refl, subst}
use mathlib.Core.Bool.{Bool, false}
use mathlib.Core.List.{List, [], ◌∷◌}
use Prim.Native.Nat.{ℕ, ◌<◌, ◌≤◌}
use native.Mathlib.Omega.{arith}
use Prim.Native.String.{String}
use lib.Dec.{T, ltb, ltb→lt, lit<, lit≤}
use lib.ListN.{length, get_or, take}
use Rattle.laws.specs.Instances.{mod37}
use Rattle.laws.proofs.Fields.{mod37_laws}
use Rattle.laws.proofs.Tests.{all, at2}
use Rattle.geometry.specs.Rule.{Rule}
use Rattle.algebra.specs.Frames.{IsFrame, FrameOf}
use Rattle.algebra.specs.Showings.{Showing, reading, gone_strips, doubtful_squares, changed_squares, Fits}
use Rattle.algebra.proofs.Fitting.{frame_unique}
use Rattle.worked.specs.Cards.{written, pictured}
use Rattle.worked.specs.List.{CardFrame, CardReads, CardFitsNone}
use Rattle.worked.proofs.Tested.{balanced, coded, tested, fitting, fits, changed_most}

pub card_frame : (symbols xs : List ℕ) → length xs ≡ 6 → T (coded mod37 xs) → T (balanced mod37 2 3 2 xs) → take 2 xs ≡ symbols → FrameOf mod37 2 3 2 symbols xs
card_frame symbols xs e t s b = record { frame = tested mod37 2 3 2 xs e t s; begins = b }

unit : CardFrame "10" "10 2F G3"
unit = card_frame (written "10") (written "10 2F G3") refl tt tt refl

-- no strip is named wrong
calm : ℕ → Bool
calm j = false

-- a card that reads as that record, with no strip named wrong
reads : (text : String) (gone doubtful changed : ℕ) → T (fitting 1 2 3 2 (reading 37 (pictured 2 text)) (written "10 2F G3") calm)
    → gone_strips 3 (reading 37 (pictured 2 text)) ≡ gone → doubtful_squares 2 3 (reading 37 (pictured 2 text)) ≡ doubtful
    → changed_squares 2 3 (reading 37 (pictured 2 text)) (written "10 2F G3") ≡ changed → CardReads text "10" gone doubtful changed
reads text gone doubtful changed t g d k = record {
  frame = written "10 2F G3";
  its_frame = unit;
  fits = fits 1 2 3 2 (reading 37 (pictured 2 text)) (written "10 2F G3") calm t;
  gone_are = g;
  doubtful_are = d;
  changed_are = k;
}

pub silent_square : CardReads "10 2F G4" "10" 0 0 1
unfolding calm
silent_square = reads "10 2F G4" 0 0 1 tt refl refl refl

pub gone_and_silent : CardReads "-- 2F G4" "10" 1 0 1
unfolding calm
gone_and_silent = reads "-- 2F G4" 1 0 1 tt refl refl refl

pub gone_and_doubtful : CardReads "-- ?F ?3" "10" 1 2 0
unfolding calm
gone_and_doubtful = reads "-- ?F ?3" 1 2 0 tt refl refl refl

-- the frame of the record of a and b
abbrev blend : ℕ → ℕ → ℕ → ℕ → ℕ
blend a b x y = mod37.add (mod37.mul a x) (mod37.mul b y)

abbrev pub mixed : ℕ → ℕ → List ℕ
mixed a b = a ∷ b ∷ blend a b 2 7 ∷ blend a b 15 10 ∷ blend a b 16 31 ∷ blend a b 3 25 ∷ []

mixed_codes : (a b : ℕ) → a < 37 → b < 37 → T (coded mod37 (mixed a b))
mixed_codes = at2 37 (λ a b. coded mod37 (mixed a b)) tt

mixed_balanced : (a b : ℕ) → a < 37 → b < 37 → T (balanced mod37 2 3 2 (mixed a b))
mixed_balanced = at2 37 (λ a b. balanced mod37 2 3 2 (mixed a b)) tt

front : (xs : List ℕ) → length xs ≡ 6 → take 2 xs ≡ get_or xs 0 0 ∷ get_or xs 1 0 ∷ []
front [] e = absurd (omega arith)
front (x ∷ []) e = absurd (omega arith)
front (x ∷ y ∷ zs) e = refl

cards : Rule 37 2 3 2
cards = (lit≤ tt, lit≤ tt, lit< tt, lit< tt)

is_mixed : (xs : List ℕ) → IsFrame mod37 2 3 2 xs → xs ≡ mixed (get_or xs 0 0) (get_or xs 1 0)
is_mixed xs f =
    let a = get_or xs 0 0 in
    let b = get_or xs 1 0 in
    let la : a < 37 = f.codes 0 (omega (arith, f.size)) in
    let lb : b < 37 = f.codes 1 (omega (arith, f.size)) in
    frame_unique mod37 mod37_laws 2 3 2 cards (a ∷ b ∷ []) xs (mixed a b)
    (record { frame = f; begins = front xs f.size })
    (card_frame (a ∷ b ∷ []) (mixed a b) refl (mixed_codes a b la lb) (mixed_balanced a b la lb) refl)

-- without wrong strips, a fitting frame differs at most at the silent square
one_change : (w : Showing) (xs : List ℕ) → Fits 1 2 3 2 w xs → changed_squares 2 3 w xs ≤ 1
one_change w xs f = omega (arith, changed_most 1 2 3 2 w xs f, f.strips, f.few)

pub none_fits : (w : Showing) → T (all 37 (λ a. all 37 (λ b. ltb 1 (changed_squares 2 3 (reading 37 w) (mixed a b)))))
    → (symbols xs : List ℕ) → FrameOf mod37 2 3 2 symbols xs → Fits 1 2 3 2 (reading 37 w) xs → ⊥
none_fits w t symbols xs f p =
    let a = get_or xs 0 0 in
    let b = get_or xs 1 0 in
    let la : a < 37 = f.frame.codes 0 (omega (arith, f.frame.size)) in
    let lb : b < 37 = f.frame.codes 1 (omega (arith, f.frame.size)) in
    let far : 1 < changed_squares 2 3 (reading 37 w) (mixed a b) = ltb→lt 1 (changed_squares 2 3 (reading 37 w) (mixed a b)) (at2 37 (λ a b. ltb 1 (changed_squares 2 3 (reading 37 w) (mixed a b))) t a b la lb) in
    let near : changed_squares 2 3 (reading 37 w) (mixed a b) ≤ 1 = one_change (reading 37 w) (mixed a b) (subst (Fits 1 2 3 2 (reading 37 w)) (is_mixed xs f.frame) p) in
    omega arith

pub both_checks : CardFitsNone "10 2G G4"
both_checks = record { gone = lit< tt; doubtful = lit≤ tt; none = none_fits (pictured 2 "10 2G G4") tt }

pub beside_gone : CardFitsNone "-- 99 G3"
beside_gone = record { gone = lit< tt; doubtful = lit≤ tt; none = none_fits (pictured 2 "-- 99 G3") tt }
