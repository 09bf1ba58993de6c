-- The line that a command prints, and the line of an error in the script itself.
--   Answer      what a command answers, which the program calls by the same name
--   figure      a space, and a number in decimal
--   hex_digit   a hexadecimal digit, in upper case
--   hex         a symbol in two hexadecimal digits
--   frames      the frame number of a command, or two for a copy
--   named       the letter of a command, and its frame numbers
--   answered    the number of an answer, 0 if the command was accepted; for a record that was read also the counts and the symbols
--   line        the line of a command and its answer
--   error_line  the line of an error in the script
--   given       how many symbols an answer gives
--   no_line     why there is no line: the buffer has not 600 bytes, or the answer gives more symbols than any record has
--   no_error_line   why there is no line for an error: the buffer has not 600 bytes
-- Assumes nothing.
use Rattle.std.specs.Prelude.{ℕ, ◌+◌, ◌/◌, ◌%◌, ◌<◌, cond, ◌≢◌, ◌⊎◌, List, [], ◌∷◌, ◌++◌, length, Option, None, Some, Result, Ok, Err, decimal, nat_lt}
use Rattle.std.specs.List.{flat_map}
use Rattle.refusal.specs.declared.Refusal.{Refusal}
use Rattle.refusal.specs.declared.Refusal.TheVariants.{WrongLength}
use Rattle.refusal.specs.Numbers.{number_of}
use Rattle.refusal.specs.Outcome.{Cause}
use Rattle.script.specs.Grammar.{letter}
use Rattle.script.specs.declared.grammar.Command.{Command}
use Rattle.script.specs.declared.grammar.Command.TheVariants.{Store, Read, Mend, Copy, Write, Doubt, Gone}
use Rattle.lines.specs.declared.line.ReadBack.{ReadBack}

abbrev pub Answer : Type 0
Answer = Result (Option ReadBack) Refusal

abbrev pub figure : ℕ → List ℕ
figure n = 32 ∷ decimal n

abbrev pub hex_digit : ℕ → ℕ
hex_digit d = cond (nat_lt d 10) (48 + d) (55 + d)

abbrev pub hex : ℕ → List ℕ
hex symbol = hex_digit (symbol / 16) ∷ hex_digit (symbol % 16) ∷ []

abbrev pub frames : Command → List ℕ
frames (Store frame symbols) = figure frame
frames (Read frame) = figure frame
frames (Mend frame) = figure frame
frames (Copy source target) = figure source ++ figure target
frames (Write frame strip square code) = figure frame
frames (Doubt frame strip square) = figure frame
frames (Gone frame strip) = figure frame

abbrev pub named : Command → List ℕ
named command = letter command ∷ frames command

abbrev pub answered : Answer → List ℕ
answered (Ok None) = figure 0
answered (Ok (Some read)) =
    figure 0 ++ (figure read.gone ++ (figure read.doubtful ++ (figure read.changed ++ (32 ∷ flat_map hex read.symbols.now))))
answered (Err cause) = figure (number_of cause)

abbrev pub line : Command → Answer → List ℕ
line command answer = named command ++ (answered answer ++ (10 ∷ []))

abbrev pub error_line : Refusal → List ℕ
error_line cause = 33 ∷ (figure (number_of cause) ++ (10 ∷ []))

abbrev pub given : Answer → ℕ
given (Ok None) = 0
given (Ok (Some read)) = length read.symbols.now
given (Err cause) = 0

abbrev pub no_line : Answer → List ℕ → List Cause
no_line answer buffer = (WrongLength, (length buffer ≢ 600) ⊎ (255 < given answer)) ∷ []

abbrev pub no_error_line : List ℕ → List Cause
no_error_line buffer = (WrongLength, length buffer ≢ 600) ∷ []
