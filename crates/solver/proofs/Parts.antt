-- Elements of a list's rest, and of a list that is written in part. Assumes nothing.
use Rattle.std.proofs.Common.{◌≡◌, ℕ, zero, suc, ◌+◌, ◌-◌, ◌<◌, ◌≤◌, List, ◌++◌, length, get_or, take, drop, sym, refl, ap, ◌∙◌, add-zero, arith, length-drop, length-take, get_or-drop, get_or-take, get_or-append-add}
use Rattle.std.proofs.lemmas.Slice.{drop-put_mid}
use lib.ListN.{get_or-append}
use borrow.Rule.Slice.PartMut.{put_mid, post_of}
use Rattle.laws.specs.Ops.{Ops, Laws, power, sum}

abbrev pub part : ℕ → ℕ → List ℕ → List ℕ
part i j xs = take (j - i) (drop i xs)

pub length_part : (i j : ℕ) (xs : List ℕ) → j ≤ length xs → length (part i j xs) ≡ j - i
length_part i j xs h = simp (length-take, length-drop) (omega arith)

pub get_d_part : (i j : ℕ) (xs : List ℕ) (k : ℕ) → k < j - i → get_or (part i j xs) k 0 ≡ get_or xs (i + k) 0
get_d_part i j xs k h = get_or-take (j - i) (drop i xs) k 0 h ∙ get_or-drop i xs k 0

pub put_before : (a k : ℕ) (xs ys : List ℕ) (i : ℕ) → i < a → a ≤ length xs → get_or (put_mid a k xs ys) i 0 ≡ get_or xs i 0
put_before a k xs ys i h l = get_or-append (take a xs) (ys ++ post_of a k xs) 0 i (simp length-take (omega arith)) ∙ get_or-take a xs i 0 h

pub put_in : (a k : ℕ) (xs ys : List ℕ) (j : ℕ) → j < length ys → a ≤ length xs → get_or (put_mid a k xs ys) (a + j) 0 ≡ get_or ys j 0
put_in a k xs ys j h l =
    let e : length (take a xs) + j ≡ a + j = simp length-take (omega arith) in
    ap (λ q. get_or (put_mid a k xs ys) q 0) (sym e) ∙ get_or-append-add (take a xs) (ys ++ post_of a k xs) j 0 ∙ get_or-append ys (post_of a k xs) 0 j h

pub sum_cong : (F : Ops) (k : ℕ) (f f' : ℕ → ℕ) → ((i : ℕ) → i < k → f i ≡ f' i) → sum F k f ≡ sum F k f'
sum_cong F zero f f' h = refl
sum_cong F (suc k) f f' h = let e = h k (omega arith) in let ih = sum_cong F k f f' (λ i l. h i (omega arith)) in cc

pub power_code : (F : Ops) (L : Laws F) (x k : ℕ) → power F x k < F.order
power_code F L x zero = omega (arith, L.order_least)
power_code F L x (suc k) = L.mul_code x (power F x k)

pub put_after : (a k : ℕ) (xs ys : List ℕ) (i : ℕ) → a + k ≤ i → a ≤ length xs → length ys ≡ k → get_or (put_mid a k xs ys) i 0 ≡ get_or xs i 0
put_after a k xs ys i h l e =
    ap (λ q. get_or (put_mid a k xs ys) q 0) (sym (add-zero i)) ∙ sym (get_or-drop i (put_mid a k xs ys) 0 0) ∙ ap (λ zs. get_or zs 0 0) (drop-put_mid a k xs ys i h l e) ∙ get_or-drop i xs 0 0 ∙ ap (λ q. get_or xs q 0) (add-zero i)
