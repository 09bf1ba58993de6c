-- A test at each number below n passes at any of them: one computation stands for all. Assumes nothing.
use Rattle.std.proofs.Common.{ℕ, zero, suc, ◌<◌, Bool, true, false, ◌&&◌, T, sym, subst, ⊎_elim, le_of_suc-le-suc, not-suc-le-zero, eq-or-lt_of_le}

pub both_parts : (a b : Bool) → T (a && b) → T a × T b
both_parts true b t = (tt, t)
both_parts false b t = absurd t

abbrev pub all : ℕ → (ℕ → Bool) → Bool
all zero f = true
all (suc n) f = f n && all n f

pub at : (n : ℕ) (f : ℕ → Bool) → T (all n f) → (k : ℕ) → k < n → T (f k)
at zero f t k h = absurd (not-suc-le-zero h)
at (suc n) f t k h =
    let parts = both_parts (f n) (all n f) t in
    ⊎_elim (λ e. subst (λ (x : ℕ). T (f x)) (sym e) parts.0) (λ l. at n f parts.1 k l) (eq-or-lt_of_le (le_of_suc-le-suc h))

pub at2 : (n : ℕ) (f : ℕ → ℕ → Bool) → T (all n (λ a. all n (f a))) → (a b : ℕ) → a < n → b < n → T (f a b)
at2 n f t a b ha hb = at n (f a) (at n (λ x. all n (f x)) t a ha) b hb
