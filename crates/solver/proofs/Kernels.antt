-- The stages of the search for weights, on codes. Assumes nothing.
use Rattle.std.proofs.Common.{◌≡◌, ℕ, suc, ◌+◌, ◌-◌, ◌<◌, ◌≤◌, Bool, true, false, cond, ltb, ◌≢◌, List, length, get_or, take, set, replicate, sym, refl, ap, ◌∙◌, subst, inl, inr, zero-add, add-one, arith, get_or-set_other, get_or-take}
use Prim.Native.Nat.{Fin}
use Rattle.solver.proofs.Fills.{get_or_zeros}
use Rattle.std.proofs.lemmas.Bool.{cases_lt, cases_eq}
use Rattle.laws.specs.Ops.{Ops, Laws}
use Rattle.algebra.proofs.Ring.{sum, mul_zero}
use Rattle.algebra.proofs.Codes.{codes, zero_code, at, sum_val}
use Rattle.algebra.proofs.Stages.{Stage, shift, app, app_short, keep, grow, swap}
use Rattle.refusal.specs.Codes.{Below}
use Rattle.solver.specs.Sums.{Filled, combined, weighed, Kernel}
use Rattle.solver.proofs.Parts.{part, get_d_part, sum_cong}

pub cond_val : {q : ℕ} (b : Bool) (x y : Fin q) → (cond b x y).0 ≡ cond b x.0 y.0
cond_val true x y = refl
cond_val false x y = refl

-- b times each of the weights gs
abbrev times : (F : Ops) (L : Laws F) (b : ℕ) (gs : List ℕ) → b < F.order → Below F.order gs → ℕ → Fin F.order
times F L b gs bb bg u = (codes F L).◌⊙◌ (b, bb) (at F L gs bg u)

-- weights and values from places on, as slices, weigh the same
pub weighed_part : (F : Ops) (n r : ℕ) (ws values : List ℕ) → length (take n ws) ≡ n → r + n ≤ length values
    → weighed F (length (take n ws)) (take n ws) (part r (length values) values) 0 ≡ weighed F n ws values r
weighed_part F n r ws values l h =
    ap (λ k. weighed F k (take n ws) (part r (length values) values) 0) l
    ∙ sum_cong F n (λ u. F.mul (get_or (take n ws) u 0) (get_or (part r (length values) values) (0 + u) 0)) (λ u. F.mul (get_or ws u 0) (get_or values (r + u) 0))
    (λ u m. cc (get_or-take n ws u 0 m, zero-add u, get_d_part r (length values) values u (omega arith)))

pub record Found (F : Ops) (L : Laws F) (t l r : ℕ) (values ws gs : List ℕ) (b : ℕ) : Type 0 where
  pub values_below : Below F.order values
  pub ws_below : Below F.order ws
  pub gs_below : Below F.order gs
  pub b_code : b < F.order
  pub stage : Stage (codes F L) (suc t) (at F L values values_below) l r (at F L ws ws_below) (times F L b gs b_code gs_below)

module _ (F : Ops) (L : Laws F) where
  pub filled_below : (f : ℕ → ℕ) (n : ℕ) (zs : List ℕ) → ((u : ℕ) → f u < F.order) → Filled f n zs → Below F.order zs
  filled_below f n zs h k u l = elim (cases_lt u n) [ inl m ↦ rw (k.first u m) (h u) | inr m ↦ rw (k.others u m) (zero_code F L) ]

  pub app_val : (n : ℕ) (values ws : List ℕ) (bv : Below F.order values) (bw : Below F.order ws) (i : ℕ)
      → (sum (codes F L) n (λ u. (codes F L).◌⊙◌ (at F L ws bw u) (at F L values bv (i + u)))).0 ≡ weighed F n ws values i
  app_val n values ws bv bw i = sum_val F L n (λ u. (codes F L).◌⊙◌ (at F L ws bw u) (at F L values bv (i + u)))

  module _ (t l r : ℕ) (values ws gs : List ℕ) (b : ℕ) (s : Found F L t l r values ws gs b) (d : ℕ) (is : d ≡ weighed F (l + 1) ws values r) where
    abbrev v : ℕ → Fin F.order
    v = at F L values s.values_below

    abbrev f : ℕ → Fin F.order
    f = at F L ws s.ws_below

    abbrev g : ℕ → Fin F.order
    g = times F L b gs s.b_code s.gs_below

    off : (app (codes F L) (suc t) v f r).0 ≡ d
    off = ap (λ z. z.0) (app_short (codes F L) (suc t) v l f r s.stage.L_less s.stage.top) ∙ app_val (suc l) values ws s.values_below s.ws_below r
        ∙ sym (is ∙ ap (λ n. weighed F n ws values r) (add-one l))

    d_code : d < F.order
    d_code = subst (λ (z : ℕ). z < F.order) off (app (codes F L) (suc t) v f r).1

    regroup : (e : ℕ) → e ≡ F.mul d b → (q : Bool) (x : ℕ) → x < F.order → F.mul e (cond q 0 x) ≡ F.mul d (cond q 0 (F.mul b x))
    regroup e is true x l = ap (λ z. F.mul z 0) is ∙ ap (λ z. z.0) (mul_zero (codes F L) (F.mul d b, L.mul_code d b)) ∙ sym (ap (λ z. z.0) (mul_zero (codes F L) (d, d_code)))
    regroup e is false x l = ap (λ z. F.mul z x) is ∙ L.mul_assoc d b x d_code s.b_code l

    made : (ka kb e : ℕ) → e ≡ F.mul d b → (zs : List ℕ) (bz : Below F.order zs) → Filled (combined F ka kb e ws gs) (t + 1) zs → (u : ℕ) → u < suc t
        → at F L zs bz u ≡ (codes F L).◌⊕◌ (shift (codes F L) ka f u) ((codes F L).⊖◌ ((codes F L).◌⊙◌ (app (codes F L) (suc t) v f r) (shift (codes F L) kb g u)))
    made ka kb e is zs bz h u m = native.Mathlib.Fin.val_path (h.first u (omega arith)
        ∙ cc (off, cond_val (ltb u ka) (codes F L).𝟘 (f (u - ka)), cond_val (ltb u kb) (codes F L).𝟘 (g (u - kb)), regroup e is (ltb u kb) (get_or gs (u - kb) 0) (at F L gs s.gs_below (u - kb)).1))

    combined_below : (ka kb e : ℕ) (zs : List ℕ) → Filled (combined F ka kb e ws gs) (t + 1) zs → Below F.order zs
    combined_below ka kb e zs h = filled_below (combined F ka kb e ws gs) (t + 1) zs (λ u. L.add_code _ _) h

    pub keep_codes : r < t → d ≡ 0 → Found F L t l (r + 1) values ws gs b
    keep_codes m z = rw (add-one r) (record {
      values_below = s.values_below;
      ws_below = s.ws_below;
      gs_below = s.gs_below;
      b_code = s.b_code;
      stage = keep (codes F L) (suc t) v s.stage (omega arith) (native.Mathlib.Fin.val_path (off ∙ z));
    })

    pub grow_codes : r < l → (e : ℕ) → e ≡ F.mul d b → (zs : List ℕ) → Filled (combined F 0 (l - r - 1) e ws gs) (t + 1) zs → Found F L t l (r + 1) values zs gs b
    grow_codes m e is' zs h = rw (add-one r) (record {
      values_below = s.values_below;
      ws_below = combined_below 0 (l - r - 1) e zs h;
      gs_below = s.gs_below;
      b_code = s.b_code;
      stage = grow (codes F L) (suc t) v s.stage (l - r - 1) (omega arith) (at F L zs (combined_below 0 (l - r - 1) e zs h)) (made 0 (l - r - 1) e is' zs (combined_below 0 (l - r - 1) e zs h) h);
    })

    pub swap_codes : r < t → l ≤ r → d ≢ 0 → (e : ℕ) → e ≡ F.mul d b → (b' : ℕ) → b' ≡ F.inv d → (zs : List ℕ)
        → Filled (combined F (r + 1 - l) 0 e ws gs) (t + 1) zs → Found F L t (r + 1) l values zs ws b'
    swap_codes m k some e is' b' inv zs h = rw (add-one r) (record {
      values_below = s.values_below;
      ws_below = bz;
      gs_below = s.ws_below;
      b_code = bb;
      stage = swap (codes F L) (suc t) v s.stage (omega arith) (r + 1 - l) (omega arith) (λ z. some (sym off ∙ ap (λ x. x.0) z))
          (at F L zs bz) (times F L b' ws bb s.ws_below) (made (r + 1 - l) 0 e is' zs bz h)
          (λ u n. native.Mathlib.Fin.val_path (cc (off, inv)));
    })
      where
        bz : Below F.order zs
        bz = combined_below (r + 1 - l) 0 e zs h

        bb : b' < F.order
        bb = rw inv (L.inv_code d)

  pub found_kernel : (t l r : ℕ) (values ws gs : List ℕ) (b : ℕ) → Found F L t l r values ws gs b → t ≤ r → Kernel F t values ws
  found_kernel t l r values ws gs b s m = record {
    below = s.ws_below;
    lead = l;
    lead_less = omega (arith, s.stage.L_less);
    lead_one = ap (λ z. z.0) s.stage.lead;
    none = λ i n. sym (app_val (suc t) values ws s.values_below s.ws_below i) ∙ ap (λ z. z.0) (s.stage.none i (omega arith));
  }

  pub start_codes : (t : ℕ) (values : List ℕ) → Below F.order values → Found F L t 0 0 values (set (replicate 128 0) 0 1) (replicate 128 0) 1
  start_codes t values bv = record {
    values_below = bv;
    ws_below = λ u l. elim (cases_eq u 0) [ inl e ↦ rw e L.order_least | inr n ↦ rw (rest u n) (zero_code F L) ];
    gs_below = λ u l. rw (get_or_zeros 128 u) (zero_code F L);
    b_code = L.order_least;
    stage = record {
      L_less = omega arith;
      r_less = omega arith;
      lead = native.Mathlib.Fin.val_path refl;
      top = λ u l m. native.Mathlib.Fin.val_path (rest u (λ e. omega arith));
      none = λ i l. absurd (omega arith);
      top_g = λ u l m. native.Mathlib.Fin.val_path (ap (F.mul 1) (get_or_zeros 128 u) ∙ ap (λ z. z.0) (mul_zero (codes F L) (1, L.order_least)));
      none_g = λ i l. absurd (omega arith);
      one_g = λ i e. absurd (omega arith);
    };
  }
    where
      rest : (u : ℕ) → u ≢ 0 → ◌≡◌ {A = ℕ} (get_or (set (replicate 128 0) 0 1) u 0) 0
      rest u n = get_or-set_other (replicate 128 0) 0 u 1 0 n ∙ get_or_zeros 128 u
