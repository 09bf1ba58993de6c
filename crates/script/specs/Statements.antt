-- What is proved of the grammar.
--   ReadOneWay      two commands that begin one script are spelled alike, and leave the same rest
--   RefusedRightly  where a command begins a script, its letter is known and it does not end early
-- Assumes nothing.
use Rattle.std.specs.Prelude.{◌≡◌, ℕ, List}
use Rattle.refusal.specs.declared.Refusal.{Refusal}
use Rattle.script.specs.declared.grammar.Command.{Command}
use Rattle.script.specs.Grammar.{Fails, Parses, spelling}

abbrev pub ReadOneWay : Type 0
ReadOneWay = (script : List ℕ) (size : ℕ) (c d : Command) (r s : List ℕ) → Parses script size c r → Parses script size d s
    → (spelling c ≡ spelling d) × (r ≡ s)

abbrev pub RefusedRightly : Type 0
RefusedRightly = (script : List ℕ) (size : ℕ) (c : Command) (r : List ℕ) (e : Refusal) → Parses script size c r → Fails script size e → ⊥
