-- What a tray shows when it is made: over bytes as they stand, and fresh; and what a writing leaves. Assumes nothing.
use Rattle.std.proofs.Common.{◌≡◌, ℕ, ◌+◌, ◌*◌, ◌<◌, Bool, true, false, cond, not, eqb, ltb, List, length, get_or, refl, ap, ◌∙◌, arith}
use native.Mathlib.Nat.{mul-mod_left}
use Rattle.std.proofs.lemmas.Bool.{lt-ltb, eq-eqb}
use Rattle.medium.specs.Counts.{Shape}
use Rattle.medium.specs.declared.counts.Counts.{Counts}
use Rattle.medium.specs.Meaning.{doubtful, clear}
use Rattle.medium.specs.Places.{size_of, strip_at}
use Rattle.medium.specs.Within.{bounded}
use Rattle.medium.proofs.Places.{strip_inside}
use Rattle.medium.proofs.Inside.{gone_there, open_there}
use Rattle.memory.specs.Shows.{Stored as stored_by}
use Rattle.memory.proofs.Tested.{every_holds}
use Rattle.tray.specs.Layout.{width, code_at, doubt_at, square_of, fresh_byte, tray_plan, tray_reads, tray_shows}
use Rattle.tray.specs.Make.{Laid, Fresh}
use Rattle.tray.specs.Stored.{Strip, Stored}

bounded_byte : (code doubt : ℕ) → code < 256 → bounded 256 (square_of code doubt) ≡ square_of code doubt
bounded_byte code doubt h = by (eqb doubt 0)
  where
    by : (b : Bool) → bounded 256 (cond b (clear code) doubtful) ≡ cond b (clear code) doubtful
    by true = ap (λ t. cond t (clear code) doubtful) (lt-ltb code 256 h)
    by false = refl

-- a tray is open exactly if its memory has the right length
pub open_by_length : (fs n m : ℕ) (xs : List ℕ) (f : ℕ) → (tray_reads fs n m xs).unlocked f ≡ eqb (length xs) (size_of fs n (width m))
open_by_length fs n m xs f = ap (λ b. cond (eqb (length xs) (size_of fs n (width m))) b false) (every_holds n (λ _. true) (λ k h. refl)) ∙ as_it_is (eqb (length xs) (size_of fs n (width m)))
  where
    as_it_is : (b : Bool) → cond b true false ≡ b
    as_it_is true = refl
    as_it_is false = refl

-- what a writing on a tray promises, in the tray's own words
pub stored_strips : (c : Shape) (f : ℕ) (codes xs ys : List ℕ) → stored_by tray_plan Strip c f codes xs ys ≡ Stored c.strips c.squares f codes xs ys
stored_strips c f codes xs ys = refl

module _ (c : Counts) (xs : List ℕ) (long : length xs ≡ size_of c.frames c.strips (width c.squares)) where
  fit : eqb (length xs) (size_of c.frames c.strips (width c.squares)) ≡ true
  fit = eq-eqb (length xs) (size_of c.frames c.strips (width c.squares)) long

  opens : (f : ℕ) → f < c.frames → (tray_shows c xs).unlocked f ≡ true
  opens f h = open_there c.frames c.strips c.squares 256 (tray_reads c.frames c.strips c.squares xs) f h ∙ open_by_length c.frames c.strips c.squares xs f ∙ fit

  gones : (f s : ℕ) → f < c.frames → s < c.strips → (tray_shows c xs).gone f s ≡ not (eqb (get_or xs (strip_at c.strips (width c.squares) f s) 0) 0)
  gones f s hf hs =
      gone_there c.frames c.strips c.squares 256 (tray_reads c.frames c.strips c.squares xs) f s hf hs
      ∙ ap (λ b. cond b (not (eqb (get_or xs (strip_at c.strips (width c.squares) f s) 0) 0)) true) fit

  pub tray_laid : Laid c xs (tray_shows c xs)
  tray_laid = record {
    frames = refl;
    strips = refl;
    squares = refl;
    levels = refl;
    always_open = opens;
    gone = gones;
    square = λ f s k hf hs hk there byte. let q = square_of (get_or xs (code_at c.strips c.squares f s k) 0) (get_or xs (doubt_at c.strips c.squares f s k) 0) in ap (λ b. cond b doubtful (cond (ltb k c.squares) (bounded 256 q) doubtful)) there ∙ ap (λ b. cond b (bounded 256 q) doubtful) (lt-ltb k c.squares hk) ∙ bounded_byte (get_or xs (code_at c.strips c.squares f s k) 0) (get_or xs (doubt_at c.strips c.squares f s k) 0) byte;
  }

  pub tray_fresh : ((i : ℕ) → i < length xs → get_or xs i 0 ≡ fresh_byte c.squares i) → Fresh (tray_shows c xs)
  tray_fresh bytes = record {
    all_open = opens;
    all_gone = λ f s hf hs. let w = width c.squares in let at = strip_at c.strips w f s in let fits = strip_inside c.frames c.strips w f s hf hs in gones f s hf hs ∙ ap (λ x. not (eqb x 0)) (bytes at (omega arith) ∙ ap (λ x. cond (eqb x 0) 1 0) (mul-mod_left (f * c.strips + s) w));
  }
