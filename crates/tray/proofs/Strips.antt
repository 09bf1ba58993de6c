-- A strip of a tray as it is written: its status, its codes, its doubts. Assumes nothing.
use Rattle.std.proofs.Common.{◌≡◌, ℕ, ◌+◌, ◌-◌, ◌<◌, ◌≤◌, List, length, get_or, set, take, drop, replicate, sym, ap, ◌∙◌, zero-add, arith, rules, length-set, length-take, length-drop, get_or-set_same}
use Rattle.std.proofs.lemmas.List.{places, get_or-replicate, length-replicate}
use borrow.Rule.Slice.PartMut.{put_mid}
use Rattle.tray.specs.Layout.{width}
use Rattle.tray.specs.Stored.{Strip}

before : (a k : ℕ) (xs ys : List ℕ) (i : ℕ) → i < a → a ≤ length xs → get_or (put_mid a k xs ys) i 0 ≡ get_or xs i 0
before a k xs ys i h l = search (rules, places)

within : (a k : ℕ) (xs ys : List ℕ) (i : ℕ) → i < length ys → a ≤ length xs → get_or (put_mid a k xs ys) (a + i) 0 ≡ get_or ys i 0
within a k xs ys i h l = search (rules, places)

behind : (a : ℕ) (xs : List ℕ) → length (take (length xs - a) (drop a xs)) ≡ length xs - a
behind a xs = simp (length-take, length-drop) (omega arith)

-- the codes behind the status, and zeros behind the codes
module _ (xs codes shown zs : List ℕ) (long : length xs ≡ width (length codes)) (same : shown ≡ codes) where
  abbrev m : ℕ
  m = length codes

  abbrev ys : List ℕ
  ys = put_mid 1 (1 + length codes - 1) (set xs 0 0) shown

  pub written : zs ≡ replicate (length (take (length ys - (1 + m)) (drop (1 + m) ys))) 0 → Strip (put_mid (1 + m) (length ys - (1 + m)) ys zs) 0 m codes 0
  written clear =
      let even : length shown ≡ m = ap length same in
      let one : 1 ≤ length (set xs 0 0) = simp length-set (omega arith) in
      let long' : length ys ≡ width m = search (rules, places) in
      let many = behind (1 + m) ys in
      let rest : length zs ≡ m = ap length clear ∙ length-replicate _ 0 ∙ many ∙ omega arith in
      record {
        present = before (1 + m) (length ys - (1 + m)) ys zs 0 (omega arith) (omega arith) ∙ before 1 (1 + m - 1) (set xs 0 0) shown 0 (omega arith) one ∙ get_or-set_same xs 0 0 0 (omega arith);
        shown = λ i h. before (1 + m) (length ys - (1 + m)) ys zs (1 + i) (omega arith) (omega arith) ∙ within 1 (1 + m - 1) (set xs 0 0) shown i (omega arith) one ∙ ap (λ l. get_or l i 0) same ∙ ap (λ q. get_or codes q 0) (sym (zero-add i));
        sure = λ i h. within (1 + m) (length ys - (1 + m)) ys zs i (omega arith) (omega arith) ∙ ap (λ l. get_or l i 0) clear ∙ get_or-replicate (length (take (length ys - (1 + m)) (drop (1 + m) ys))) i 0 0 (omega arith);
      }
