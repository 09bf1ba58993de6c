-- A meaning from a reading: it keeps the limits, and a reading that took codes in is a writing. By the tests of places alone.
-- Assumes nothing.
use Rattle.std.proofs.Common.{◌≡◌, ℕ, ◌+◌, ◌*◌, ◌<◌, ◌≤◌, Bool, true, false, cond, ltb, ◌≢◌, List, get_or, Ok, Err, Result, sym, refl, ap, ◌∙◌, ⊎_elim, arith}
use mathlib.Core.Path.{fun_ext}
use Rattle.std.proofs.lemmas.Bool.{lt-ltb, le-ltb, ltb-true, cases_Bool, both_ways}
use Rattle.refusal.specs.declared.Refusal.{Refusal}
use Rattle.refusal.specs.declared.Refusal.TheVariants.{NoSuchPlace}
use Rattle.medium.specs.declared.medium.Look.{Look}
use Rattle.medium.specs.declared.medium.Look.TheVariants.{Gone}
use Rattle.medium.specs.Limits.{Suited, Limits}
use Rattle.medium.specs.Meaning.{Square, doubtful, clear, look_on, look_at, look_of}
use Rattle.medium.specs.Within.{Reading, bounded, gone_within, square_within, within}
use Rattle.medium.specs.Write.{Written}

-- what is asked of a choice need only hold where it is taken
cond_else : {A : Type 0} (b : Bool) (x y z : A) → (b ≡ false → y ≡ z) → cond b x y ≡ cond b x z
cond_else true x y z h = refl
cond_else false x y z h = h refl

cond_then : {A : Type 0} (b : Bool) (x y z : A) → (b ≡ true → x ≡ z) → cond b x y ≡ cond b z y
cond_then true x y z h = h refl
cond_then false x y z h = refl

doubtful_not_clear : (c : ℕ) → doubtful ≡ clear c → ⊥
doubtful_not_clear c e = let z : ◌≡◌ {A = ℕ} 0 1 = cc in omega arith

bounded_below : (l : ℕ) (q : Square) (c : ℕ) → bounded l q ≡ clear c → c < l
bounded_below l doubtful c e = absurd (doubtful_not_clear c e)
bounded_below l (clear d) c e = ⊎_elim (λ t. let h : clear d ≡ clear c = sym (ap (λ b. cond b (clear d) doubtful) t) ∙ e in let same : d ≡ c = cc in let b = ltb-true d l t in omega arith) (λ t. absurd (doubtful_not_clear c (sym (ap (λ b. cond b (clear d) doubtful) t) ∙ e))) (cases_Bool (ltb d l))

chosen_below : (l : ℕ) (a b : Bool) (q : Square) (c : ℕ) → cond a doubtful (cond b (bounded l q) doubtful) ≡ clear c → c < l
chosen_below l true b q c e = absurd (doubtful_not_clear c e)
chosen_below l false true q c e = bounded_below l q c e
chosen_below l false false q c e = absurd (doubtful_not_clear c e)

inside : (a b g : Bool) → cond a (cond b g true) true ≡ false → (a ≡ true) × (b ≡ true)
inside true true g e = (refl, refl)
inside true false g e = absurd (both_ways true e refl)
inside false b g e = absurd (both_ways true e refl)

same_all : {A : Type 0} (b : Bool) (x : A) → cond b x x ≡ x
same_all true x = refl
same_all false x = refl

module _ (fs n m l : ℕ) where
  pub gone_there : (v : Reading) (f s : ℕ) → f < fs → s < n → gone_within fs n v f s ≡ v.gone f s
  gone_there v f s hf hs = ap (λ b. cond b (cond (ltb s n) (v.gone f s) true) true) (lt-ltb f fs hf) ∙ ap (λ b. cond b (v.gone f s) true) (lt-ltb s n hs)

  pub look_there : (v : Reading) (f s k : ℕ) → f < fs → s < n → k < m → look_at (within fs n m l v) f s k ≡ cond (v.gone f s) Gone (look_on (bounded l (v.square f s k)))
  look_there v f s k hf hs hk =
      let g = gone_within fs n v f s in
      let q = bounded l (v.square f s k) in
      cond_else g Gone (look_on (square_within fs n m l v f s k)) (look_on q) (λ e. ap (λ b. look_on (cond b doubtful (cond (ltb k m) q doubtful))) e ∙ ap (λ b. look_on (cond b q doubtful)) (lt-ltb k m hk))
      ∙ ap (λ b. cond b Gone (look_on q)) (gone_there v f s hf hs)

  -- what looking answers at a place that there is
  pub look_answers : (v : Reading) (f s k : ℕ) → f < fs → s < n → k < m → look_of (within fs n m l v) f s k ≡ Ok (cond (v.gone f s) Gone (look_on (bounded l (v.square f s k))))
  look_answers v f s k hf hs hk =
      let none : Result Look Refusal = Err NoSuchPlace in
      let a : Result Look Refusal = Ok (look_at (within fs n m l v) f s k) in
      ap (λ b. cond b (cond (ltb s n) (cond (ltb k m) a none) none) none) (lt-ltb f fs hf)
      ∙ ap (λ b. cond b (cond (ltb k m) a none) none) (lt-ltb s n hs)
      ∙ ap (λ b. cond b a none) (lt-ltb k m hk)
      ∙ ap (λ x. Ok x) (look_there v f s k hf hs hk)

  -- whether a frame that there is is open
  pub open_there : (v : Reading) (f : ℕ) → f < fs → (within fs n m l v).unlocked f ≡ v.unlocked f
  open_there v f hf = ap (λ b. cond b (v.unlocked f) false) (lt-ltb f fs hf)

  pub within_limits : (v : Reading) → Suited fs n m → 1 ≤ l → l ≤ 256 → Limits (within fs n m l v)
  within_limits v fit least most = record {
    suited = fit;
    levels_least = least;
    levels_most = most;
    codes_below = λ f s k c e. chosen_below l (gone_within fs n v f s) (ltb k m) (v.square f s k) c e;
    no_frame_open = λ f h. ap (λ b. cond b (v.unlocked f) false) (le-ltb f fs h);
    no_frame_gone = λ f s h. ap (λ b. cond b (cond (ltb s n) (v.gone f s) true) true) (le-ltb f fs h);
    no_strip_gone = λ f s h. ap (λ b. cond (ltb f fs) (cond b (v.gone f s) true) true) (le-ltb s n h) ∙ same_all (ltb f fs) true;
    gone_square = λ f s k e. ap (λ b. cond b doubtful (cond (ltb k m) (bounded l (v.square f s k)) doubtful)) e;
    no_square = λ f s k h. ap (λ b. cond (gone_within fs n v f s) doubtful (cond b (bounded l (v.square f s k)) doubtful)) (le-ltb k m h) ∙ same_all (gone_within fs n v f s) doubtful;
  }

  -- frame f reads the same in v and w
  pub record SameFrame (v w : Reading) (f : ℕ) : Type 0 where
    pub unlocked : w.unlocked f ≡ v.unlocked f
    pub gone : (s : ℕ) → s < n → w.gone f s ≡ v.gone f s
    pub square : (s k : ℕ) → s < n → k < m → w.square f s k ≡ v.square f s k

  module _ (v w : Reading) (f : ℕ) (same : f < fs → SameFrame v w f) where
    same_unlocked : (within fs n m l w).unlocked f ≡ (within fs n m l v).unlocked f
    same_unlocked = cond_then (ltb f fs) (w.unlocked f) false (v.unlocked f) (λ e. (same (ltb-true f fs e)).unlocked)

    same_gone : (s : ℕ) → gone_within fs n w f s ≡ gone_within fs n v f s
    same_gone s =
        cond_then (ltb f fs) (cond (ltb s n) (w.gone f s) true) true (cond (ltb s n) (v.gone f s) true) (λ e. cond_then (ltb s n) (w.gone f s) true (v.gone f s) (λ t. (same (ltb-true f fs e)).gone s (ltb-true s n t)))

    same_square : (s k : ℕ) → square_within fs n m l w f s k ≡ square_within fs n m l v f s k
    same_square s k =
        let of : Reading → Square = λ r. cond (ltb k m) (bounded l (r.square f s k)) doubtful in
        ap (λ b. cond b doubtful (of w)) (same_gone s)
        ∙ cond_else (gone_within fs n v f s) doubtful (of w) (of v) (λ e. let at = inside (ltb f fs) (ltb s n) (v.gone f s) e in cond_then (ltb k m) (bounded l (w.square f s k)) doubtful (bounded l (v.square f s k)) (λ t. ap (bounded l) ((same (ltb-true f fs at.0)).square s k (ltb-true s n at.1) (ltb-true k m t))))

  -- a reading that shows the codes in frame f, and all other frames as they were
  pub within_written : (v w : Reading) (f : ℕ) (codes : List ℕ) → f < fs
      → ((s : ℕ) → s < n → w.gone f s ≡ false)
      → ((s k : ℕ) → s < n → k < m → bounded l (w.square f s k) ≡ clear (get_or codes (s * m + k) 0))
      → ((g : ℕ) → g ≢ f → g < fs → SameFrame v w g)
      → Written (within fs n m l v) f codes (within fs n m l w)
  within_written v w f codes there present shown others = record {
    shape = record { frames = refl; strips = refl; squares = refl; levels = refl };
    present = λ s hs. gone_there w f s there hs ∙ present s hs;
    codes_there = λ s k hs hk. ap (λ b. cond b doubtful (cond (ltb k m) (bounded l (w.square f s k)) doubtful)) (gone_there w f s there hs ∙ present s hs) ∙ ap (λ b. cond b (bounded l (w.square f s k)) doubtful) (lt-ltb k m hk) ∙ shown s k hs hk;
    open_after = tt;
    others_open = λ g ne. same_unlocked v w g (others g ne);
    others_gone = λ g ne. fun_ext (λ s. same_gone v w g (others g ne) s);
    others_square = λ g ne. fun_ext (λ s. fun_ext (λ k. same_square v w g (others g ne) s k));
  }
