-- The number of each refusal.
--   number_of   the number that a program prints for a refusal
-- Assumes nothing.
use Rattle.std.specs.Prelude.{ℕ}
use Rattle.refusal.specs.declared.Refusal.{Refusal}
use Rattle.refusal.specs.declared.Refusal.TheVariants.{BadGeometry, Unsuited, NoSuchPlace, WrongLength, BadSymbol, Closed, TooManyGone, TooManyDoubtful, NoFit, NotShown, UnknownCommand, EndsEarly}

abbrev pub number_of : Refusal → ℕ
number_of BadGeometry = 1
number_of Unsuited = 2
number_of NoSuchPlace = 3
number_of WrongLength = 4
number_of BadSymbol = 5
number_of Closed = 6
number_of TooManyGone = 7
number_of TooManyDoubtful = 8
number_of NoFit = 9
number_of NotShown = 10
number_of UnknownCommand = 11
number_of EndsEarly = 12
