-- The worked frames of bytes: each by a computed test, and that no record fits by one test at every record, since every frame is
-- a multiple of one. Assumes nothing.
use mathlib.Core.Path.{◌≡◌, refl, subst}
use mathlib.Core.Bool.{Bool}
use mathlib.Core.List.{List, [], ◌∷◌}
use Prim.Native.Nat.{ℕ, ◌<◌, ◌≤◌}
use native.Mathlib.Omega.{arith}
use lib.Dec.{T, eqb, ltb, ltb→lt, lit<, lit≤}
use lib.ListN.{length, get_or, take}
use Rattle.laws.specs.Binary.{product}
use Rattle.laws.specs.Instances.{bytes}
use Rattle.laws.proofs.Fields.{byte_laws}
use Rattle.laws.proofs.Tests.{all, at}
use Rattle.geometry.specs.Rule.{Rule}
use Rattle.algebra.specs.Frames.{IsFrame, FrameOf}
use Rattle.algebra.specs.Showings.{Showing, reading, changed_squares, Fits}
use Rattle.algebra.proofs.Fitting.{frame_unique}
use Rattle.worked.specs.List.{ByteFrame, BytesRead, BytesFitNone, clear}
use Rattle.worked.proofs.Tested.{balanced, coded, tested, fits, changed_most}

byte_frame : (symbols xs : List ℕ) → length xs ≡ 4 → T (coded bytes xs) → T (balanced bytes 1 4 3 xs) → take 1 xs ≡ symbols → FrameOf bytes 1 4 3 symbols xs
byte_frame symbols xs e t s b = record { frame = tested bytes 1 4 3 xs e t s; begins = b }

pub eight : ByteFrame (0x08 ∷ []) (0x08 ∷ 0x0E ∷ 0x07 ∷ 0x01 ∷ [])
unfolding product
eight = byte_frame (0x08 ∷ []) (0x08 ∷ 0x0E ∷ 0x07 ∷ 0x01 ∷ []) refl tt tt refl

-- the third strip is named wrong
third : ℕ → Bool
third j = eqb j 2

pub wrong_strip : BytesRead (0x08 ∷ 0x0E ∷ 0xFF ∷ 0x01 ∷ []) (0x08 ∷ []) 0 0 1
unfolding third
wrong_strip = record {
  frame = 0x08 ∷ 0x0E ∷ 0x07 ∷ 0x01 ∷ [];
  its_frame = eight;
  fits = fits 1 1 4 3 (reading 256 (clear (0x08 ∷ 0x0E ∷ 0xFF ∷ 0x01 ∷ []))) (0x08 ∷ 0x0E ∷ 0x07 ∷ 0x01 ∷ []) third tt;
  gone_are = refl;
  doubtful_are = refl;
  changed_are = refl;
}

-- the frame of the record of a
abbrev multiple : ℕ → List ℕ
multiple a = a ∷ bytes.mul a 0xC8 ∷ bytes.mul a 0x64 ∷ bytes.mul a 0xAD ∷ []

multiple_codes : (a : ℕ) → a < 256 → T (coded bytes (multiple a))
unfolding product
multiple_codes = at 256 (λ a. coded bytes (multiple a)) tt

multiple_balanced : (a : ℕ) → a < 256 → T (balanced bytes 1 4 3 (multiple a))
unfolding product
multiple_balanced = at 256 (λ a. balanced bytes 1 4 3 (multiple a)) tt

front : (xs : List ℕ) → length xs ≡ 4 → take 1 xs ≡ get_or xs 0 0 ∷ []
front [] e = absurd (omega arith)
front (x ∷ zs) e = refl

four_strips : Rule 256 1 4 3
four_strips = (lit≤ tt, lit≤ tt, lit< tt, lit< tt)

first_code : (xs : List ℕ) → IsFrame bytes 1 4 3 xs → get_or xs 0 0 < 256
first_code xs f = f.codes 0 (omega (arith, f.size))

is_multiple : (xs : List ℕ) → IsFrame bytes 1 4 3 xs → xs ≡ multiple (get_or xs 0 0)
is_multiple xs f =
    let a = get_or xs 0 0 in
    frame_unique bytes byte_laws 1 4 3 four_strips (a ∷ []) xs (multiple a)
    (record { frame = f; begins = front xs f.size })
    (byte_frame (a ∷ []) (multiple a) refl (multiple_codes a (first_code xs f)) (multiple_balanced a (first_code xs f)) refl)

-- a fitting frame has no silent square, and differs in one wrong strip at most
one_change : (w : Showing) (xs : List ℕ) → Fits 1 1 4 3 w xs → changed_squares 1 4 w xs ≤ 1
one_change w xs f = omega (arith, changed_most 1 1 4 3 w xs f, f.strips, f.squares)

none_fits : (w : Showing) → T (all 256 (λ a. ltb 1 (changed_squares 1 4 (reading 256 w) (multiple a))))
    → (symbols xs : List ℕ) → FrameOf bytes 1 4 3 symbols xs → Fits 1 1 4 3 (reading 256 w) xs → ⊥
none_fits w t symbols xs f p =
    let a = get_or xs 0 0 in
    let far : 1 < changed_squares 1 4 (reading 256 w) (multiple a) = ltb→lt 1 (changed_squares 1 4 (reading 256 w) (multiple a)) (at 256 (λ a. ltb 1 (changed_squares 1 4 (reading 256 w) (multiple a))) t a (first_code xs f.frame)) in
    let near : changed_squares 1 4 (reading 256 w) (multiple a) ≤ 1 = one_change (reading 256 w) (multiple a) (subst (Fits 1 1 4 3 (reading 256 w)) (is_multiple xs f.frame) p) in
    omega arith

pub two_strips : BytesFitNone (0x08 ∷ 0x00 ∷ 0xFF ∷ 0x01 ∷ [])
unfolding product
two_strips = record { gone = lit< tt; doubtful = lit≤ tt; none = none_fits (clear (0x08 ∷ 0x00 ∷ 0xFF ∷ 0x01 ∷ [])) tt }
