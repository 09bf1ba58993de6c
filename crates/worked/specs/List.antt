-- The worked frames as one list: cards of the field of 37 with two squares in a strip, three strips, two of them checks; frames of
-- bytes with one square in a strip, four strips, three of them checks; and two geometries.
--   CardFrame         the record's frame, as texts of cards
--   CardReads         the record that a card reads, with the counts of gone strips, doubtful squares and changed squares
--   CardFitsNone      a card that no record's frame fits
--   ByteFrame, BytesRead, BytesFitNone   the same for bytes, all squares clear
--   Worked            the list, a line for each
-- Assumes nothing.
use Rattle.std.specs.Prelude.{List, [], ◌∷◌, ℕ}
use Prim.Native.String.{String}
use Rattle.laws.specs.Instances.{bytes, mod37}
use Rattle.geometry.specs.Rule.{Rule}
use Rattle.algebra.specs.Frames.{FrameOf}
use Rattle.algebra.specs.Showings.{Showing}
use Rattle.fitting.specs.Marks.{shown_by}
use Rattle.worked.specs.Cards.{written, pictured}
use Rattle.worked.specs.Answers.{Reads, TooManyGone, TooManyDoubtful, FitsNone}

abbrev pub CardFrame : String → String → Type 0
CardFrame record_text frame_text = FrameOf mod37 2 3 2 (written record_text) (written frame_text)

abbrev pub CardReads : String → String → ℕ → ℕ → ℕ → Type 0
CardReads text record_text = Reads mod37 2 3 2 (pictured 2 text) (written record_text)

abbrev pub CardFitsNone : String → Type 0
CardFitsNone text = FitsNone mod37 2 3 2 (pictured 2 text)

abbrev pub ByteFrame : List ℕ → List ℕ → Type 0
ByteFrame = FrameOf bytes 1 4 3

-- every square clear
abbrev pub clear : List ℕ → Showing
clear xs = shown_by xs [] []

abbrev pub BytesRead : List ℕ → List ℕ → ℕ → ℕ → ℕ → Type 0
BytesRead xs = Reads bytes 1 4 3 (clear xs)

abbrev pub BytesFitNone : List ℕ → Type 0
BytesFitNone xs = FitsNone bytes 1 4 3 (clear xs)

pub record Worked : Type 0 where
  pub first_unit_has_frame : CardFrame "10" "10 2F G3"
  pub second_unit_has_frame : CardFrame "01" "01 7A VP"
  pub sum_of_units_has_frame : CardFrame "11" "11 9P AS"
  pub silent_square_is_read : CardReads "10 2F G4" "10" 0 0 1
  pub gone_strip_and_silent_square_are_read : CardReads "-- 2F G4" "10" 1 0 1
  pub gone_strip_and_doubtful_squares_are_read : CardReads "-- ?F ?3" "10" 1 2 0
  pub as_many_gone_as_checks_are_too_many : TooManyGone mod37 2 3 2 (pictured 2 "-- -- G3")
  pub more_doubtful_than_a_strip_are_too_many : TooManyDoubtful mod37 2 3 2 (pictured 2 "?0 ?F ?3")
  pub changes_in_both_checks_fit_none : CardFitsNone "10 2G G4"
  pub changed_strip_beside_a_gone_one_fits_none : CardFitsNone "-- 99 G3"
  pub byte_has_frame : ByteFrame (0x08 ∷ []) (0x08 ∷ 0x0E ∷ 0x07 ∷ 0x01 ∷ [])
  pub wrong_strip_is_read : BytesRead (0x08 ∷ 0x0E ∷ 0xFF ∷ 0x01 ∷ []) (0x08 ∷ []) 0 0 1
  pub changes_in_half_the_strips_fit_none : BytesFitNone (0x08 ∷ 0x00 ∷ 0xFF ∷ 0x01 ∷ [])
  pub longest_byte_geometry : Rule 256 1 255 254
  pub geometry_of_all_codes_is_none : (c : ℕ) → Rule 256 16 16 c → ⊥
