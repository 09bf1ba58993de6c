-- A strip of a tray reads, and holds codes, by its own bytes. Assumes nothing.
use Rattle.std.proofs.Common.{◌≡◌, ℕ, ◌+◌, ◌<◌, not, eqb, List, get_or, refl, sym, ap, ◌∙◌, arith}
use Rattle.memory.specs.Plan.{Alike, Laws}
use Rattle.memory.proofs.Places.{alike_at}
use Rattle.tray.specs.Layout.{width, square_of, tray_plan}
use Rattle.tray.specs.Stored.{Strip}

module _ (m : ℕ) (xs : List ℕ) (at : ℕ) (ys : List ℕ) (bt : ℕ) (same : Alike (width m) xs at ys bt) where
  byte : (i p q : ℕ) → i < width m → p ≡ at + i → q ≡ bt + i → get_or xs p 0 ≡ get_or ys q 0
  byte = alike_at (width m) xs at ys bt same

  status : get_or xs at 0 ≡ get_or ys bt 0
  status = byte 0 at bt (omega arith) (omega arith) (omega arith)

  code : (k : ℕ) → k < m → get_or xs (at + 1 + k) 0 ≡ get_or ys (bt + 1 + k) 0
  code k h = byte (1 + k) (at + 1 + k) (bt + 1 + k) (omega arith) (omega arith) (omega arith)

  doubt : (k : ℕ) → k < m → get_or xs (at + 1 + m + k) 0 ≡ get_or ys (bt + 1 + m + k) 0
  doubt k h = byte (1 + m + k) (at + 1 + m + k) (bt + 1 + m + k) (omega arith) (omega arith) (omega arith)

  held : (codes : List ℕ) (from : ℕ) (ds : List ℕ) (to : ℕ) → Alike m codes from ds to → Strip xs at m codes from → Strip ys bt m ds to
  held codes from ds to even s = record {
    present = sym status ∙ s.present;
    shown = λ k h. sym (code k h) ∙ s.shown k h ∙ even.each k h;
    sure = λ k h. sym (doubt k h) ∙ s.sure k h;
  }

pub tray_laws : Laws tray_plan Strip
tray_laws = record {
  levels_least = omega arith;
  levels_most = omega arith;
  width_most = λ m h. omega arith;
  gone_alone = λ m xs at ys bt same. ap (λ x. not (eqb x 0)) (status m xs at ys bt same);
  square_alone = λ m xs at ys bt k same h. λ i. square_of (code m xs at ys bt same k h i) (doubt m xs at ys bt same k h i);
  writable_alone = λ m xs at ys bt same. refl;
  holds_alone = λ m xs at ys bt codes from ds to same even s. held m xs at ys bt same codes from ds to even s;
  held_there = λ m xs at codes from some below s. ap (λ x. not (eqb x 0)) s.present;
  held_shown = λ m xs at codes from k h below s. λ i. square_of (s.shown k h i) (s.sure k h i);
}
