-- A short sequence of weights that takes a sequence to zero, found step by step. Assumes nothing.
use Rattle.std.proofs.Common.{◌≡◌, ℕ, suc, ◌+◌, ◌-◌, ◌<◌, ◌≤◌, cond, ltb, ◌≢◌, sym, refl, ap, ◌∙◌, inr, arith}
use native.Mathlib.Nat as N
use native.Mathlib.Decide.{ℕ_discrete}
use Rattle.std.proofs.lemmas.Bool.{le-ltb, lt-ltb}
use Rattle.algebra.proofs.Ring.{Whole, add_zero, zero_add, mul_zero, mul_one, mul_comm, zero_mul, neg_mul, zero_product, less_self, less_none, sum, sum_cong, sum_zero, sum_add, sum_scale, sum_append, ring}

-- f slid up by k places
abbrev pub shift : (W : Whole) → ℕ → (ℕ → W.C) → ℕ → W.C
shift W k f u = cond (ltb u k) W.𝟘 (f (u - k))

-- K weights f on the sequence σ from i on
abbrev pub app : (W : Whole) → ℕ → (ℕ → W.C) → (ℕ → W.C) → ℕ → W.C
app W K σ f i = sum W K (λ u. W.◌⊙◌ (f u) (σ (i + u)))

-- f, with 1 at L and no more, is zero on the first r places; g, up to r, is zero on the first places and 1 at the last before L
pub record Stage (W : Whole) (K : ℕ) (σ : ℕ → W.C) (L r : ℕ) (f g : ℕ → W.C) : Type 0 where
  pub L_less : L < K
  pub r_less : r < K
  pub lead : f L ≡ W.𝟙
  pub top : (u : ℕ) → L < u → u < K → f u ≡ W.𝟘
  pub none : (i : ℕ) → i < r → app W K σ f i ≡ W.𝟘
  pub top_g : (u : ℕ) → r < u → u < K → g u ≡ W.𝟘
  pub none_g : (i : ℕ) → suc i < L → app W K σ g i ≡ W.𝟘
  pub one_g : (i : ℕ) → suc i ≡ L → app W K σ g i ≡ W.𝟙

module _ (W : Whole) (K : ℕ) (σ : ℕ → W.C) where
  open W use {C, 𝟘, 𝟙, ◌⊕◌, ◌⊙◌, ⊖◌, inv, mul_inv}

  infixl 65 ◌⊕◌
  infixl 70 ◌⊙◌
  infix 75 ⊖◌
  shift_low : (k : ℕ) (f : ℕ → C) (u : ℕ) → u < k → shift W k f u ≡ 𝟘
  shift_low k f u h = ap (λ b. cond b 𝟘 (f (u - k))) (lt-ltb u k h)

  shift_high : (k : ℕ) (f : ℕ → C) (u v : ℕ) → k + v ≡ u → shift W k f u ≡ f v
  shift_high k f u v e = ap (λ b. cond b 𝟘 (f (u - k))) (le-ltb u k (omega arith)) ∙ ap f (let d : u - k ≡ v = omega arith in d)

  sum_at : (j k : ℕ) (f : ℕ → C) → j ≡ k → sum W j f ≡ sum W k f
  sum_at j k f e = ap (λ n. sum W n f) e

  pub app_shift : (k : ℕ) (f : ℕ → C) (i : ℕ) → k ≤ K → ((u : ℕ) → u < K → K ≤ u + k → f u ≡ 𝟘) → app W K σ (shift W k f) i ≡ app W K σ f (i + k)
  app_shift k f i l h =
      let m = K - k in
      let F : ℕ → C = λ u. shift W k f u ⊙ σ (i + u) in
      let G : ℕ → C = λ u. f u ⊙ σ (i + k + u) in
      let e : K ≡ k + m = omega arith in
      let e' : K ≡ m + k = omega arith in
      let z = sum_zero W k F (λ u q. ap (λ t. t ⊙ σ (i + u)) (shift_low k f u q) ∙ zero_mul W (σ (i + u))) in
      let z' = sum_zero W k (λ v. G (m + v)) (λ v q. ap (λ t. t ⊙ σ (i + k + (m + v))) (h (m + v) (omega arith) (omega arith)) ∙ zero_mul W (σ (i + k + (m + v)))) in
      let s = sum_cong W m (λ v. F (k + v)) G (λ v q. ap (λ t. t ⊙ σ (i + (k + v))) (shift_high k f (k + v) v refl) ∙ ap (λ t. f v ⊙ σ t) (sym (N.add_assoc i k v))) in
      sum_at K (k + m) F e ∙ sum_append W k m F ∙ (let a = zero_add W (sum W m G) in let b = add_zero W (sum W m G) in let p = sum_at K (m + k) G e' ∙ sum_append W m k G in cc)

  comb_term : (f g d s : C) → (f ⊕ ⊖ (d ⊙ g)) ⊙ s ≡ f ⊙ s ⊕ ⊖ d ⊙ (g ⊙ s)
  comb_term f g d s = simp ring

  pub app_comb : (f g h : ℕ → C) (d : C) (i : ℕ) → ((u : ℕ) → u < K → h u ≡ f u ⊕ ⊖ (d ⊙ g u)) → app W K σ h i ≡ app W K σ f i ⊕ ⊖ (d ⊙ app W K σ g i)
  app_comb f g h d i e =
      sum_cong W K (λ u. h u ⊙ σ (i + u)) (λ u. f u ⊙ σ (i + u) ⊕ ⊖ d ⊙ (g u ⊙ σ (i + u))) (λ u l. ap (λ t. t ⊙ σ (i + u)) (e u l) ∙ comb_term (f u) (g u) d (σ (i + u)))
      ∙ sum_add W K (λ u. f u ⊙ σ (i + u)) (λ u. ⊖ d ⊙ (g u ⊙ σ (i + u)))
      ∙ ap (λ t. app W K σ f i ⊕ t) (sum_scale W K (⊖ d) (λ u. g u ⊙ σ (i + u)) ∙ neg_mul W d (app W K σ g i))

  pub app_scale : (f h : ℕ → C) (d : C) (i : ℕ) → ((u : ℕ) → u < K → h u ≡ d ⊙ f u) → app W K σ h i ≡ d ⊙ app W K σ f i
  app_scale f h d i e =
      sum_cong W K (λ u. h u ⊙ σ (i + u)) (λ u. d ⊙ (f u ⊙ σ (i + u))) (λ u l. ap (λ t. t ⊙ σ (i + u)) (e u l) ∙ W.mul_assoc d (f u) (σ (i + u)))
      ∙ sum_scale W K d (λ u. f u ⊙ σ (i + u))

  -- weights past the top count for nothing
  pub app_short : (L : ℕ) (f : ℕ → C) (i : ℕ) → L < K → ((u : ℕ) → L < u → u < K → f u ≡ 𝟘) → app W K σ f i ≡ sum W (suc L) (λ u. f u ⊙ σ (i + u))
  app_short L f i l h =
      let m = K - suc L in
      let F : ℕ → C = λ u. f u ⊙ σ (i + u) in
      let e : K ≡ suc L + m = omega arith in
      sum_at K (suc L + m) F e ∙ sum_append W (suc L) m F
      ∙ ap (λ t. sum W (suc L) F ⊕ t) (sum_zero W m (λ v. F (suc L + v)) (λ v q. ap (λ t. t ⊙ σ (i + (suc L + v))) (h (suc L + v) (omega arith) (omega arith)) ∙ zero_mul W (σ (i + (suc L + v)))))
      ∙ add_zero W (sum W (suc L) F)

  less_zero : (a d b : C) → b ≡ 𝟘 → a ⊕ ⊖ (d ⊙ b) ≡ a
  less_zero a d b e = less_none W a (d ⊙ b) (zero_product W d b (inr e))

  less_same : (a d b : C) → a ≡ d → b ≡ 𝟙 → a ⊕ ⊖ (d ⊙ b) ≡ 𝟘
  less_same a d b e e' = less_self W a (d ⊙ b) (e ∙ sym (ap (λ t. d ⊙ t) e' ∙ mul_one W d))

  pub keep : {L r : ℕ} {f g : ℕ → C} → Stage W K σ L r f g → suc r < K → app W K σ f r ≡ 𝟘 → Stage W K σ L (suc r) f g
  keep {L} {r} {f} {g} s l e = record {
    L_less = s.L_less;
    r_less = l;
    lead = s.lead;
    top = s.top;
    none = λ i m. elim (ℕ_discrete i r) [ yes q ↦ ap (app W K σ f) q ∙ e | no n ↦ s.none i (omega arith) ];
    top_g = λ u m. s.top_g u (omega arith);
    none_g = s.none_g;
    one_g = s.one_g;
  }

  -- ka and kb: one of the two is 0
  module _ (ka kb : ℕ) (f g h : ℕ → C) (d : C) (made : (u : ℕ) → u < K → h u ≡ shift W ka f u ⊕ ⊖ (d ⊙ shift W kb g u)) where
    pub app_made : (i : ℕ) → ka ≤ K → kb ≤ K → ((u : ℕ) → u < K → K ≤ u + ka → f u ≡ 𝟘) → ((u : ℕ) → u < K → K ≤ u + kb → g u ≡ 𝟘)
        → app W K σ h i ≡ app W K σ f (i + ka) ⊕ ⊖ (d ⊙ app W K σ g (i + kb))
    app_made i la lb ha hb = app_comb (shift W ka f) (shift W kb g) h d i made ∙ cc (app_shift ka f i la ha, app_shift kb g i lb hb)

    pub made_at : (u a b : ℕ) → u < K → ka + a ≡ u → kb + b ≡ u → g b ≡ 𝟘 → h u ≡ f a
    made_at u a b l ea eb z = made u l ∙ less_zero (shift W ka f u) d (shift W kb g u) (shift_high kb g u b eb ∙ z) ∙ shift_high ka f u a ea

  pub grow : {L r : ℕ} {f g : ℕ → C} → Stage W K σ L r f g → (k : ℕ) → k + suc r ≡ L → (h : ℕ → C)
      → ((u : ℕ) → u < K → h u ≡ shift W 0 f u ⊕ ⊖ (app W K σ f r ⊙ shift W k g u)) → Stage W K σ L (suc r) h g
  grow {L} {r} {f} {g} s k e h made = record {
    L_less = s.L_less;
    r_less = omega (arith, s.L_less);
    lead = made_at 0 k f g h d made L L (suc r) s.L_less (N.zero-add L) e (s.top_g (suc r) (omega arith) (omega (arith, s.L_less))) ∙ s.lead;
    top = λ u m l. made_at 0 k f g h d made u u (u - k) l (N.zero-add u) (omega arith) (s.top_g (u - k) (omega arith) (omega arith)) ∙ s.top u m l;
    none = λ i m. app_at i ∙ elim (ℕ_discrete i r) [
      | yes q ↦ less_same _ d _ (ap (app W K σ f) (let z : i + 0 ≡ r = omega arith in z)) (s.one_g (i + k) (omega arith))
      | no n ↦ less_zero _ d _ (s.none_g (i + k) (omega arith)) ∙ s.none (i + 0) (omega arith)
    ];
    top_g = λ u m. s.top_g u (omega arith);
    none_g = s.none_g;
    one_g = s.one_g;
  }
    where
      d : C
      d = app W K σ f r

      app_at : (i : ℕ) → app W K σ h i ≡ app W K σ f (i + 0) ⊕ ⊖ (d ⊙ app W K σ g (i + k))
      app_at i = app_made 0 k f g h d made i (omega arith) (omega (arith, s.L_less)) (λ u l q. absurd (omega arith)) (λ u l q. s.top_g u (omega (arith, s.L_less)) l)

  pub swap : {L r : ℕ} {f g : ℕ → C} → Stage W K σ L r f g → suc r < K → (k : ℕ) → k + L ≡ suc r → app W K σ f r ≢ 𝟘 → (h h' : ℕ → C)
      → ((u : ℕ) → u < K → h u ≡ shift W k f u ⊕ ⊖ (app W K σ f r ⊙ shift W 0 g u)) → ((u : ℕ) → u < K → h' u ≡ inv (app W K σ f r) ⊙ f u) → Stage W K σ (suc r) L h h'
  swap {L} {r} {f} {g} s l k e some h h' made made' = record {
    L_less = l;
    r_less = s.L_less;
    lead = made_at k 0 f g h d made (suc r) L (suc r) l e (N.zero-add (suc r)) (s.top_g (suc r) (omega arith) l) ∙ s.lead;
    top = λ u m q. made_at k 0 f g h d made u (u - k) u q (omega arith) (N.zero-add u) (s.top_g u (omega arith) q) ∙ s.top (u - k) (omega arith) (omega arith);
    none = λ i m. app_at i ∙ elim (ℕ_discrete (suc i) L) [
      | yes q ↦ less_same _ d _ (ap (app W K σ f) (let z : i + k ≡ r = omega arith in z)) (s.one_g (i + 0) (omega arith))
      | no n ↦ less_zero _ d _ (s.none_g (i + 0) (omega arith)) ∙ s.none (i + k) (omega arith)
    ];
    top_g = λ u m q. made' u q ∙ ap (λ t. inv d ⊙ t) (s.top u m q) ∙ mul_zero W (inv d);
    none_g = λ i m. app_scale f h' (inv d) i made' ∙ ap (λ t. inv d ⊙ t) (s.none i (omega arith)) ∙ mul_zero W (inv d);
    one_g = λ i m. app_scale f h' (inv d) i made' ∙ ap (λ j. inv d ⊙ app W K σ f j) (let z : i ≡ r = omega arith in z) ∙ mul_comm W (inv d) d ∙ mul_inv d some;
  }
    where
      d : C
      d = app W K σ f r

      app_at : (i : ℕ) → app W K σ h i ≡ app W K σ f (i + k) ⊕ ⊖ (d ⊙ app W K σ g (i + 0))
      app_at i = app_made k 0 f g h d made i (omega arith) (omega arith) (λ u q z. s.top u (omega arith) q) (λ u q z. absurd (omega arith))
