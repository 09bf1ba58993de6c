-- How a script is written: a header, and then one command after another.
--   field_byte  the byte that names a field
--   NamesField  what the reading of a field's byte answers: the field that it names, or that the geometry is bad
--   two_bytes   a number in two bytes, high byte first
--   heading     the bytes of a header
--   Opens       what a header's parser answers: the header and the rest that make up the script, or that the script ends early
--   letter      the byte that begins a command
--   operands    the bytes that follow the letter
--   spelling    all bytes of a command
--   operand_bytes   how many bytes follow a letter, where a record has so many symbols: 0 where no command has that letter
--   width       how many bytes the command takes that begins a script
--   Sized       a command that stores something stores a whole record
--   Parses      a script is this command, and then the rest
--   Fails       why no command begins a script: its letter is unknown, or it ends early
--   Commands    what a command's parser answers: the command and the rest, or why there is none
-- Assumes nothing.
use Rattle.std.specs.Prelude.{◌≡◌, ℕ, ◌+◌, ◌/◌, ◌%◌, ◌<◌, cond, ◌⊎◌, List, [], ◌∷◌, ◌++◌, length, Result, MatchResult, ◌==◌, slice_index}
use Rattle.std.specs.Borrow.{Bor}
use Rattle.refusal.specs.declared.Refusal.{Refusal}
use Rattle.refusal.specs.declared.Refusal.TheVariants.{BadGeometry, UnknownCommand, EndsEarly}
use Rattle.script.specs.declared.grammar.FieldKind.{FieldKind}
use Rattle.script.specs.declared.grammar.FieldKind.TheVariants.{Bytes, Mod37}
use Rattle.script.specs.declared.grammar.Header.{Header}
use Rattle.script.specs.declared.grammar.Command.{Command}
use Rattle.script.specs.declared.grammar.Command.TheVariants.{Store, Read, Mend, Copy, Write, Doubt, Gone}

abbrev pub field_byte : FieldKind → ℕ
field_byte Bytes = 0
field_byte Mod37 = 1

abbrev pub NamesField : ℕ → Result FieldKind Refusal → Type 0
NamesField byte r = MatchResult r (λ field. byte ≡ field_byte field) (λ e. (1 < byte) × (e ≡ BadGeometry))

abbrev pub two_bytes : ℕ → List ℕ
two_bytes n = n / 256 ∷ n % 256 ∷ []

abbrev pub heading : Header → List ℕ
heading h = h.field ∷ h.squares ∷ h.strips ∷ h.checks ∷ two_bytes h.frames

abbrev pub Opens : List ℕ → Result (Header × Bor (List ℕ)) Refusal → Type 0
Opens script r = MatchResult r (λ (header, rest). script ≡ heading header ++ rest.now) (λ e. (length script < 6) × (e ≡ EndsEarly))

abbrev pub letter : Command → ℕ
letter (Store frame symbols) = 83  -- S
letter (Read frame) = 82  -- R
letter (Mend frame) = 77  -- M
letter (Copy source target) = 67  -- C
letter (Write frame strip square code) = 87  -- W
letter (Doubt frame strip square) = 68  -- D
letter (Gone frame strip) = 71  -- G

abbrev pub operands : Command → List ℕ
operands (Store frame symbols) = two_bytes frame ++ symbols.now
operands (Read frame) = two_bytes frame
operands (Mend frame) = two_bytes frame
operands (Copy source target) = two_bytes source ++ two_bytes target
operands (Write frame strip square code) = two_bytes frame ++ (strip ∷ square ∷ code ∷ [])
operands (Doubt frame strip square) = two_bytes frame ++ (strip ∷ square ∷ [])
operands (Gone frame strip) = two_bytes frame ++ (strip ∷ [])

abbrev pub spelling : Command → List ℕ
spelling command = letter command ∷ operands command

abbrev pub operand_bytes : ℕ → ℕ → ℕ
operand_bytes size byte =
    cond (byte == 83) (2 + size)
    (cond (byte == 82) 2
    (cond (byte == 77) 2
    (cond (byte == 67) 4
    (cond (byte == 87) 5
    (cond (byte == 68) 4
    (cond (byte == 71) 3 0))))))

abbrev pub width : ℕ → List ℕ → ℕ
width size script = 1 + operand_bytes size (slice_index script 0)

abbrev pub Sized : ℕ → Command → Type 0
Sized size (Store frame symbols) = length symbols.now ≡ size
Sized size (Read frame) = Unit {0}
Sized size (Mend frame) = Unit {0}
Sized size (Copy source target) = Unit {0}
Sized size (Write frame strip square code) = Unit {0}
Sized size (Doubt frame strip square) = Unit {0}
Sized size (Gone frame strip) = Unit {0}

abbrev pub Parses : List ℕ → ℕ → Command → List ℕ → Type 0
Parses script size command rest = (script ≡ spelling command ++ rest) × Sized size command

abbrev pub Fails : List ℕ → ℕ → Refusal → Type 0
Fails script size e =
    ((0 < length script) × (operand_bytes size (slice_index script 0) ≡ 0) × (e ≡ UnknownCommand))
    ⊎ ((length script < width size script) × (e ≡ EndsEarly))

abbrev pub Commands : List ℕ → ℕ → Result (Command × Bor (List ℕ)) Refusal → Type 0
Commands script size r = MatchResult r (λ (command, rest). Parses script size command rest.now) (λ e. Fails script size e)
