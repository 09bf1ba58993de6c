-- A record and its frame in card characters, a line to each.
--   longest      the bytes of the buffer that takes any frame's line
--   width        the places of a strip in a line: its m characters and what ends it
--   line_size    how long the line of a frame is
--   StandsFor    symbols that the characters of a line stand for, one by one
--   Stranger     a place of a line whose byte is not in the alphabet
--   Group        a strip's characters from a place on, and what ends it
--   ending       what ends strip j of n: a space, and a newline after the last
--   Text         the first t of the n strips of an array, one after the other
--   no_line      why a line is refused, in this order
--   Made         the line holds a record, and the buffer begins with the line of its frame; its other bytes are as they were
--   FramesLine   refused, and the buffer is as it was; or made, and the answer is the length of the line
-- Assumes nothing.
use Rattle.std.specs.Prelude.{◌≡◌, ℕ, ◌+◌, ◌*◌, ◌<◌, ◌≤◌, cond, ◌≢◌, ◌⊎◌, List, [], ◌∷◌, length, Some, None, Ok, Result, nat_lt, slice_index, slice_index_or}
use Rattle.refusal.specs.declared.Refusal.{Refusal}
use Rattle.refusal.specs.declared.Refusal.TheVariants.{Unsuited, WrongLength, BadSymbol}
use Rattle.refusal.specs.Outcome.{Cause, Outcome}
use Rattle.laws.specs.Instances.{mod37}
use Rattle.geometry.specs.declared.Geometry.{Geometry}
use Rattle.algebra.specs.Frames.{FrameOf, record_size}
use Rattle.card.specs.Alphabet.{value_of, letter}

abbrev pub longest : ℕ
longest = 80

abbrev pub width : ℕ → ℕ
width m = m + 1

abbrev pub line_size : ℕ → ℕ → ℕ
line_size m n = n * width m

pub record StandsFor (line symbols : List ℕ) : Type 0 where
  pub many : length symbols ≡ length line
  pub each : (i : ℕ) → i < length line → value_of (slice_index line i) ≡ Some (slice_index symbols i)

pub record Stranger (line : List ℕ) : Type 0 where
  pub place : ℕ
  pub inside : place < length line
  pub outside : value_of (slice_index line place) ≡ None

pub record Group (text : List ℕ) (at m : ℕ) (xs : List ℕ) (from end : ℕ) : Type 0 where
  pub shown : (κ : ℕ) → κ < m → slice_index text (at + κ) ≡ letter (slice_index xs (from + κ))
  pub ended : slice_index_or text (at + m) 0 ≡ end

abbrev pub ending : ℕ → ℕ → ℕ
ending n j = cond (nat_lt (j + 1) n) 32 10

abbrev pub Text : ℕ → ℕ → List ℕ → List ℕ → ℕ → Type 0
Text m n xs text t = (j : ℕ) → j < t → Group text (j * width m) m xs (j * m) (ending n j)

abbrev pub no_line : Geometry → List ℕ → List ℕ → List Cause
no_line g line out =
    (Unsuited, g.order ≢ 37)
    ∷ (WrongLength, ((length line ≢ record_size g.squares g.strips g.checks) ⊎ (length out ≢ longest)))
    ∷ (BadSymbol, Stranger line)
    ∷ []

pub record Made (m n c : ℕ) (line out out' : List ℕ) : Type 0 where
  pub symbols : List ℕ
  pub stand : StandsFor line symbols
  pub array : List ℕ
  pub frame : FrameOf mod37 m n c symbols array
  pub text : Text m n array out' n
  pub long : length out' ≡ length out
  pub rest : (i : ℕ) → line_size m n ≤ i → slice_index out' i ≡ slice_index out i

abbrev pub FramesLine : Geometry → List ℕ → List ℕ → Result ℕ Refusal → List ℕ → Type 0
FramesLine g line out r out' =
    Outcome (no_line g line out) (out' ≡ out) ((r ≡ Ok (line_size g.squares g.strips)) × Made g.squares g.strips g.checks line out out') r
