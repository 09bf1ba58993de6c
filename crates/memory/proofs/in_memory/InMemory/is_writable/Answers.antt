use Rattle.std.proofs.Common.{◌≡◌, ℕ, Bool, false, cond, ap, sym, ◌∙◌, zero-add, arith, rules, tests}
use Rattle.std.specs.List.{list_all, range_with_len}
use Rattle.std.proofs.lemmas.List.FromFn.{length-range_with_len, get_or-range_with_len}
use Rattle.std.proofs.lemmas.Iterator.{YieldsList-from_range}
use Rattle.std.proofs.lemmas.Iterator.Search.{all_from_yields_List}
use Rattle.memory.specs.Every.{every}
use Rattle.memory.specs.Shows.{place}
use Rattle.memory.proofs.Tested.{every_list}
use Rattle.memory.proofs.in_memory.InMemory.is_writable.Goals as goal

pub returns : goal.returns
returns g c =
    let s = c.args.self.now in
    let p = g.L.Layout.plan in
    let n = s.counts.strips in
    let writable : ℕ → Bool = λ i. p.writable s.bytes.now (place p s.counts c.args.frame i) s.counts.squares in
    let all : c.all.result ≡ list_all writable (range_with_len 0 n) = all_from_yields_List writable _ _ _ c.all.ensures.ran (YieldsList-from_range 0 n n (cc) (omega arith)) (λ x b q k. search (rules, tests)) in
    record { value = all ∙ sym (every_list 0 writable (range_with_len 0 n) n writable (length-range_with_len 0 n) (λ k h. ap writable (sym (get_or-range_with_len 0 n k 0 h ∙ zero-add k)))) ∙ ap (λ b. cond b (every n writable) false) (sym c.if-not-suits.false ∙ c.suits.ensures.value) }
