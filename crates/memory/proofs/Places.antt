-- The bytes of a strip on their own and in the memory, before and after a write. Assumes nothing.
use Rattle.std.proofs.Common.{◌≡◌, ℕ, ◌+◌, ◌<◌, ◌≤◌, List, length, get_or, take, drop, sym, ap, ◌∙◌, zero-add, rules}
use Rattle.std.proofs.lemmas.List.{places}
use borrow.Rule.Slice.PartMut.{put_mid}
use Rattle.memory.specs.Plan.{Alike}

pub alike_put : (xs ys : List ℕ) (at at' k w : ℕ) → at ≡ at' → at ≤ length xs → w ≤ length ys → Alike w ys 0 (put_mid at k xs ys) at'
alike_put xs ys at at' k w e inside long = record {
  each = λ i h. (let put : get_or (put_mid at k xs ys) (at + i) 0 ≡ get_or ys i 0 = search (rules, places) in ap (λ j. get_or ys j 0) (zero-add i) ∙ sym put ∙ ap (λ a. get_or (put_mid at k xs ys) (a + i) 0) e);
}

pub alike_part : (xs : List ℕ) (from k w : ℕ) → w ≤ k → Alike w (take k (drop from xs)) 0 xs from
alike_part xs from k w h = record { each = λ i l. search (rules, places) }

-- one byte of two strips that are alike, by its places
pub alike_at : (w : ℕ) (xs : List ℕ) (at : ℕ) (ys : List ℕ) (bt : ℕ) → Alike w xs at ys bt → (i p q : ℕ) → i < w → p ≡ at + i → q ≡ bt + i → get_or xs p 0 ≡ get_or ys q 0
alike_at w xs at ys bt same i p q h ep eq = ap (λ j. get_or xs j 0) ep ∙ same.each i h ∙ sym (ap (λ j. get_or ys j 0) eq)
