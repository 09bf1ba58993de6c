use mathlib.Core.Path.{refl}
use native.Mathlib.Omega.{arith}
use lib.Dec.{lit<, lit≤}
use Rattle.worked.specs.Cards.{written}
use Rattle.worked.proofs.OnCards.{card_frame, silent_square, gone_and_silent, gone_and_doubtful, both_checks, beside_gone}
use Rattle.worked.proofs.OnBytes.{eight, wrong_strip, two_strips}
use Rattle.worked.proofs.worked_frames_stand.Goals as goal

pub returns : goal.returns
returns c = record {
  first_unit_has_frame = card_frame (written "10") (written "10 2F G3") refl tt tt refl;
  second_unit_has_frame = card_frame (written "01") (written "01 7A VP") refl tt tt refl;
  sum_of_units_has_frame = card_frame (written "11") (written "11 9P AS") refl tt tt refl;
  silent_square_is_read = silent_square;
  gone_strip_and_silent_square_are_read = gone_and_silent;
  gone_strip_and_doubtful_squares_are_read = gone_and_doubtful;
  as_many_gone_as_checks_are_too_many = record { gone = lit≤ tt };
  more_doubtful_than_a_strip_are_too_many = record { gone = lit< tt; doubtful = lit< tt };
  changes_in_both_checks_fit_none = both_checks;
  changed_strip_beside_a_gone_one_fits_none = beside_gone;
  byte_has_frame = eight;
  wrong_strip_is_read = wrong_strip;
  changes_in_half_the_strips_fit_none = two_strips;
  longest_byte_geometry = (lit≤ tt, lit≤ tt, lit< tt, lit< tt);
  geometry_of_all_codes_is_none = λ k r. omega (arith, r.3);
}
