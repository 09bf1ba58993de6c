-- Additive functions are equal if they are equal at the powers of two: a number is the exclusive or of its bits. Assumes nothing.
use Rattle.std.proofs.Common.{◌≡◌, ℕ, zero, suc, ◌*◌, ◌/◌, ◌%◌, ◌^◌, ◌<◌, sym, refl, ap, ◌∙◌, subst, ap₂, add-zero, pow-suc, div-add-mod', arith, lit<}
use lib.Bits.{bit_xor, xor_assoc, xor_comm, xor_self, xor_zero_r, xor_block, xor_shifted}
use Rattle.std.proofs.lemmas.Nat.{mod_below, shr_below}
use Rattle.laws.specs.Binary.{pick}

-- (a + b) + (c + d) = (a + c) + (b + d)
pub swap : (a b c d : ℕ) → bit_xor (bit_xor a b) (bit_xor c d) ≡ bit_xor (bit_xor a c) (bit_xor b d)
swap a b c d =
    xor_assoc a b (bit_xor c d) ∙ ap (bit_xor a) (sym (xor_assoc b c d) ∙ ap (λ x. bit_xor x d) (xor_comm b c) ∙ xor_assoc c b d)
    ∙ sym (xor_assoc a c (bit_xor b d))

pub double : (a b : ℕ) → bit_xor a b * 2 ≡ bit_xor (a * 2) (b * 2)
double a b = sym (simp add-zero at (xor_block 1 a b 0 0 (lit< tt) (lit< tt)))

pub bit_below : (n : ℕ) → n % 2 < 2
bit_below n = mod_below n 2 (lit< tt)

pub pick_add : (s t v : ℕ) → s < 2 → t < 2 → pick (bit_xor s t) v ≡ bit_xor (pick s v) (pick t v)
pick_add zero zero v hs ht = refl
pick_add zero (suc zero) v hs ht = refl
pick_add zero (suc (suc t)) v hs ht = absurd (omega arith)
pick_add (suc zero) zero v hs ht = sym (xor_zero_r v)
pick_add (suc zero) (suc zero) v hs ht = sym (xor_self v)
pick_add (suc zero) (suc (suc t)) v hs ht = absurd (omega arith)
pick_add (suc (suc s)) t v hs ht = absurd (omega arith)

abbrev pub Additive : (ℕ → ℕ) → Type 0
Additive f = (a b : ℕ) → f (bit_xor a b) ≡ bit_xor (f a) (f b)

pub at_zero : (f : ℕ → ℕ) → Additive f → f 0 ≡ 0
at_zero f h = h 0 0 ∙ xor_self (f 0)

at_bit : (f g : ℕ → ℕ) → Additive f → Additive g → f 1 ≡ g 1 → (s : ℕ) → s < 2 → f s ≡ g s
at_bit f g hf hg e zero h = at_zero f hf ∙ sym (at_zero g hg)
at_bit f g hf hg e (suc zero) h = e
at_bit f g hf hg e (suc (suc s)) h = absurd (omega arith)

pub span : (k : ℕ) (f g : ℕ → ℕ) → Additive f → Additive g → ((i : ℕ) → i < k → f (2 ^ i) ≡ g (2 ^ i)) → (a : ℕ) → a < 2 ^ k → f a ≡ g a
span zero f g hf hg e a h = let z : a ≡ 0 = omega arith in ap f z ∙ at_zero f hf ∙ sym (at_zero g hg) ∙ ap g (sym z)
span (suc k) f g hf hg e a h =
    let parts : bit_xor (a / 2 * 2) (a % 2) ≡ a = xor_shifted (a / 2) 1 (a % 2) (bit_below a) ∙ div-add-mod' a 2 in
    let half : a / 2 < 2 ^ k = shr_below a k 1 (subst (λ (x : ℕ). a < 2 ^ x) (omega arith) h) in
    let high = span k (λ x. f (x * 2)) (λ x. g (x * 2)) (λ x y. ap f (double x y) ∙ hf (x * 2) (y * 2)) (λ x y. ap g (double x y) ∙ hg (x * 2) (y * 2))
    (λ i l. ap f (sym (pow-suc 2 i)) ∙ e (suc i) (omega arith) ∙ ap g (pow-suc 2 i)) (a / 2) half in
    ap f (sym parts) ∙ hf (a / 2 * 2) (a % 2) ∙ ap₂ bit_xor high (at_bit f g hf hg (e 0 (omega arith)) (a % 2) (bit_below a))
    ∙ sym (hg (a / 2 * 2) (a % 2)) ∙ ap g parts
