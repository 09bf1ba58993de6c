-- Looking over a frame, square by square: what the looks together say of the frame. Assumes nothing.
use Rattle.std.proofs.Common.{◌≡◌, ℕ, zero, suc, ◌+◌, ◌*◌, ◌/◌, ◌%◌, ◌<◌, ◌≤◌, Bool, true, false, cond, List, get_or, Ok, Result, sym, refl, ap, ◌∙◌, subst, mul_comm, mod-lt, div-lt_iff_lt-mul, arith, rules}
use Rattle.std.proofs.lemmas.Bool.{both_ways}
use Rattle.std.proofs.lemmas.Nat.{mul-add-lt, div-mul-add, mod-mul-add}
use Rattle.refusal.specs.declared.Refusal.{Refusal}
use Rattle.algebra.specs.Showings.{Showing}
use Rattle.medium.specs.declared.medium.Look.{Look}
use Rattle.medium.specs.declared.medium.Look.TheVariants.{Gone, Clear}
use Rattle.medium.specs.Meaning.{Meaning, Square, doubtful, clear, look_on, look_at, look_of}
use Rattle.kept.specs.Shows.{unclear, code_on, shown_of, Shows, Agree, Noted}

look_ok : (w : Meaning) (f s k : ℕ) → f < w.frames → s < w.strips → k < w.squares → look_of w f s k ≡ Ok (look_at w f s k)
look_ok w f s k hf hs hk = search rules

some_squares : (n m p : ℕ) → p < n * m → 1 ≤ m
some_squares n zero p h = omega arith
some_squares n (suc m) p h = omega arith

-- a look at place p of a frame is granted
pub looked : (v w : Meaning) (f p m : ℕ) (r : Result Look Refusal) → f < w.frames → m ≡ w.squares → p < w.strips * m → v ≡ w → r ≡ look_of v f (p / m) (p % m)
    → r ≡ Ok (look_at w f (p / m) (p % m))
looked v w f p m r there e h same is =
    let some : 1 ≤ m = some_squares w.strips m p h in
    let col : p % m < w.squares = subst (λ n. p % m < n) e (mod-lt p some) in
    is ∙ ap (λ u. look_of u f (p / m) (p % m)) same ∙ look_ok w f (p / m) (p % m) there ((div-lt_iff_lt-mul some).1 h) col

-- square k of strip s stands at place s * m + k
place : (m n s k : ℕ) → s < n → k < m → s * m + k < n * m
place m n s k hs hk = subst (λ t. s * m + k < t) (mul_comm m n) (mul-add-lt s m k n hs hk)

-- only a clear square of a strip that is there looks clear
pub look_clear : (g : Bool) (q : Square) (c : ℕ) → cond g Gone (look_on q) ≡ Clear c → (g ≡ false) × (q ≡ clear c)
look_clear true q c e = (cc, cc)
look_clear false doubtful c e = (cc, cc)
look_clear false (clear d) c e = (refl, let same : d ≡ c = cc in ap clear same)

module _ (w : Meaning) (f m n : ℕ) (some : 1 ≤ m) (strips : w.strips ≡ n) (squares : w.squares ≡ m) where
  -- a frame that looks like the codes shows them
  pub shows_all : (xs : List ℕ) → ((p : ℕ) → p < n * m → look_at w f (p / m) (p % m) ≡ Clear (get_or xs p 0)) → Shows w f xs
  shows_all xs each = record {
    present = λ s h. (at s 0 (subst (λ k. s < k) strips h) some).0;
    coded = λ s k h l. (at s k (subst (λ t. s < t) strips h) (subst (λ t. k < t) squares l)).1 ∙ ap (λ t. clear (get_or xs (s * t + k) 0)) (sym squares);
  }
    where
      at : (s k : ℕ) → s < n → k < m → (w.gone f s ≡ false) × (w.square f s k ≡ clear (get_or xs (s * m + k) 0))
      at s k h l =
          look_clear (w.gone f s) (w.square f s k) (get_or xs (s * m + k) 0)
          (sym (λ i. look_at w f (div-mul-add s m k l i) (mod-mul-add s m k l i)) ∙ each (s * m + k) (place m n s k h l))

noted_gone : (g : Bool) (q : Square) (a b : Bool) (x : ℕ) → Noted (cond g Gone (look_on q)) a b x → a ≡ g
noted_gone true q a b x h = h
noted_gone false doubtful a b x h = h.0
noted_gone false (clear c) a b x h = h.0

noted_doubtful : (g : Bool) (q : Square) (a b : Bool) (x : ℕ) → Noted (cond g Gone (look_on q)) a b x → a ≡ false → b ≡ unclear q
noted_doubtful true q a b x h e = absurd (both_ways a e h)
noted_doubtful false doubtful a b x h e = h.1
noted_doubtful false (clear c) a b x h e = h.1

noted_shown : (g : Bool) (q : Square) (a b : Bool) (x : ℕ) → Noted (cond g Gone (look_on q)) a b x → a ≡ false → b ≡ false → x ≡ code_on q
noted_shown true q a b x h e d = absurd (both_ways a e h)
noted_shown false doubtful a b x h e d = absurd (both_ways b d h.1)
noted_shown false (clear c) a b x h e d = h.2

-- a showing in which each look is noted down agrees with what the frame shows
pub agree_noted : (w : Meaning) (f m n : ℕ) (v : Showing) → 1 ≤ m → w.squares ≡ m
    → ((p : ℕ) → p < n * m → Noted (look_at w f (p / m) (p % m)) (v.gone (p / m)) (v.doubtful p) (v.shown p)) → Agree m n v (shown_of w f)
unfolding shown_of
agree_noted w f m n v some squares each = record {
  gone = λ j h. (let e = div-mul-add j m 0 some in sym (ap v.gone e) ∙ noted_gone _ (sq (j * m + 0)) _ _ _ (each (j * m + 0) (place m n j 0 h some)) ∙ ap (w.gone f) e);
  doubtful = λ p h g. noted_doubtful (w.gone f (p / m)) (sq p) _ _ _ (each p h) g ∙ ap unclear (same p);
  shown = λ p h g d. noted_shown (w.gone f (p / m)) (sq p) _ _ _ (each p h) g d ∙ ap code_on (same p);
}
  where
    sq : ℕ → Square
    sq p = w.square f (p / m) (p % m)

    same : (p : ℕ) → w.square f (p / m) (p % m) ≡ w.square f (p / w.squares) (p % w.squares)
    same p = sym (λ i. w.square f (p / squares i) (p % squares i))
