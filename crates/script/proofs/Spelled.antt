-- A command's letter says how many bytes it takes, so that a script is cut in one way only. Assumes nothing.
use Rattle.std.proofs.Common.{◌≡◌, ℕ, ◌+◌, ◌<◌, List, ◌++◌, length, get_or, take, drop, sym, refl, ap, ◌∙◌, subst, inl, inr, arith, length-append}
use Rattle.std.proofs.lemmas.List.{drop_at, take_at}
use Rattle.script.specs.declared.grammar.Command.{Command}
use Rattle.script.specs.declared.grammar.Command.TheVariants.{Store, Read, Mend, Copy, Write, Doubt, Gone}
use Rattle.script.specs.Grammar.{Parses, Sized, operand_bytes, spelling, width}
use Rattle.script.specs.Statements.{ReadOneWay, RefusedRightly}

spelled_width : (c : Command) (size : ℕ) (rest : List ℕ) → Sized size c → length (spelling c) ≡ width size (spelling c ++ rest)
spelled_width (Store f s) size rest h = omega arith
spelled_width (Read f) size rest h = refl
spelled_width (Mend f) size rest h = refl
spelled_width (Copy f t) size rest h = refl
spelled_width (Write f s k v) size rest h = refl
spelled_width (Doubt f s k) size rest h = refl
spelled_width (Gone f s) size rest h = refl

spelled_known : (c : Command) (size : ℕ) (rest : List ℕ) → 0 < operand_bytes size (get_or (spelling c ++ rest) 0 0)
spelled_known (Store f s) size rest = omega arith
spelled_known (Read f) size rest = omega arith
spelled_known (Mend f) size rest = omega arith
spelled_known (Copy f t) size rest = omega arith
spelled_known (Write f s k v) size rest = omega arith
spelled_known (Doubt f s k) size rest = omega arith
spelled_known (Gone f s) size rest = omega arith

parsed_width : (script : List ℕ) (size : ℕ) (c : Command) (r : List ℕ) → Parses script size c r → length (spelling c) ≡ width size script
parsed_width script size c r h = spelled_width c size r h.1 ∙ ap (λ s. width size s) (sym h.0)

parsed_known : (script : List ℕ) (size : ℕ) (c : Command) (r : List ℕ) → Parses script size c r → 0 < operand_bytes size (get_or script 0 0)
parsed_known script size c r h =
    let Known : List ℕ → Type 0 = λ s. 0 < operand_bytes size (get_or s 0 0) in
    subst Known (sym h.0) (spelled_known c size r)

front_is : (script : List ℕ) (size : ℕ) (c : Command) (r : List ℕ) → Parses script size c r → take (width size script) script ≡ spelling c
front_is script size c r h =
    ap (λ s. take (width size script) s) h.0 ∙ take_at (spelling c) r (width size script) (parsed_width script size c r h)

rest_is : (script : List ℕ) (size : ℕ) (c : Command) (r : List ℕ) → Parses script size c r → drop (width size script) script ≡ r
rest_is script size c r h =
    ap (λ s. drop (width size script) s) h.0 ∙ drop_at (spelling c) r (width size script) (parsed_width script size c r h)

pub read_one_way : ReadOneWay
read_one_way script size c d r s hc hd =
    (sym (front_is script size c r hc) ∙ front_is script size d s hd, sym (rest_is script size c r hc) ∙ rest_is script size d s hd)

pub refused_rightly : RefusedRightly
refused_rightly script size c r e h (inl unknown) = let known = parsed_known script size c r h in omega (arith, unknown.1)
refused_rightly script size c r e h (inr short) =
    let w = parsed_width script size c r h in
    let l : length script ≡ length (spelling c) + length r = ap length h.0 ∙ length-append (spelling c) r in
    omega (arith, short.0)
