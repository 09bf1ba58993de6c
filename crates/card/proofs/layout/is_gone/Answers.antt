use Rattle.std.proofs.Common.{◌≡◌, ◌+◌, ◌∙◌, take, length, get_or, not, sym, ap, zero-add, arith, rules, tests, length-take}
use Rattle.std.specs.List.{list_all}
use Rattle.std.proofs.lemmas.Iterator.{YieldsList-from_slice}
use Rattle.std.proofs.lemmas.Iterator.Search.{all_from_yields_List}
use Rattle.std.proofs.lemmas.List.{get_or-take}
use Rattle.memory.proofs.Tested.{every_list}
use Rattle.card.specs.Alphabet.{is_letter}
use Rattle.card.proofs.layout.is_gone.Goals as goal

pub returns : goal.returns
returns c =
    let m = c.args.squares in
    let xs = c.args.strip.now in
    let all : c.all.result ≡ list_all (λ x. not (is_letter x)) (take m xs) = all_from_yields_List (λ x. not (is_letter x)) _ _ _ c.all.ensures.ran (YieldsList-from_slice (take m xs) (cc)) (λ x b q k. search (rules, tests)) in
    let long : length (take m xs) ≡ m = simp length-take (omega arith) in
    record { value = all ∙ sym (every_list 0 (λ x. not (is_letter x)) (take m xs) m (λ k. not (is_letter (get_or xs (0 + k) 0))) long (λ k h. ap (λ x. not (is_letter x)) (ap (λ i. get_or xs i 0) (zero-add k) ∙ sym (get_or-take m xs k 0 h)))) }
