-- The fewest wrong strips: the strips with the fewest changes are left out first. None can do with fewer, since up to an edge
-- all strips are left out, from it on all are named wrong, and what is left of the budget is below the edge. Assumes nothing.
use Rattle.std.proofs.Common.{◌≡◌, ℕ, zero, suc, ◌+◌, ◌-◌, ◌*◌, ◌/◌, ◌<◌, ◌≤◌, min, Bool, true, false, cond, not, ◌&&◌, eqb, sym, refl, ap, subst, ◌∙◌, inl, inr, mul-le-mul_right, suc-mul, mul-le-mul_left, one-mul, mul-zero, zero-mul, mul-one, mul-suc, mul-add, add-one, div-mul-le_self, arith}
use Rattle.std.proofs.Math.Nat.{lt-div-mul-add}
use Rattle.std.proofs.lemmas.Bool.{cases_Bool, cases_lt, cases_eq, eqb-true, eqb-false, eq-eqb, lt-ltb, le-ltb, true≢false}
use Rattle.algebra.specs.Showings.{count}
use Rattle.fitting.specs.Wrong.{total, left_out, Fewest, Spared, Stage}
use Rattle.algebra.proofs.Counting.{count_true, count_false, count_room}
use Rattle.fitting.proofs.Counting.{first}

module _ (d : ℕ → ℕ) where
  -- one strip: named wrong from the edge on, against any other naming
  weighed : (e x : ℕ) (a b : Bool) → (a ≡ true → e ≤ x) → (a ≡ false → x ≤ e)
      → e * cond a 1 0 + cond a 0 x ≤ cond b 0 x + e * cond b 1 0
  weighed e x true true o u = omega (arith, mul-one e)
  weighed e x true false o u = omega (arith, mul-one e, mul-zero e, o refl)
  weighed e x false true o u = omega (arith, mul-one e, mul-zero e, u refl)
  weighed e x false false o u = omega (arith, mul-zero e)

  weigh : (e k : ℕ) (a b : ℕ → Bool) → ((j : ℕ) → j < k → a j ≡ true → e ≤ d j) → ((j : ℕ) → j < k → a j ≡ false → d j ≤ e)
      → e * count k a + total k (left_out d a) ≤ total k (left_out d b) + e * count k b
  weigh e zero a b o u = omega arith
  weigh e (suc k) a b o u =
      let ih = weigh e k a b (λ j l. o j (omega arith)) (λ j l. u j (omega arith)) in
      let one = weighed e (d k) (a k) (b k) (o k (omega arith)) (u k (omega arith)) in
      omega (arith, mul-add e (count k a) (cond (a k) 1 0), mul-add e (count k b) (cond (b k) 1 0))

  smaller : (e t s rest : ℕ) → e * t ≤ e * s + rest → rest < e → t ≤ s
  smaller e t s rest l h = elim (cases_lt s t) [
    | inl g ↦ absurd (let m : e * suc s ≤ e * t = mul-le-mul_left e g in omega (arith, mul-suc e s))
    | inr g ↦ g
  ]

  pub fewest : (n budget s t rest : ℕ) → Stage n budget d s t rest → budget < s → Fewest n budget d t
  fewest n budget s t rest g past = record {
    naming = record { wrong = g.wrong; changed = λ j l e. omega (arith, g.over j l e, g.least); number = g.number; within = omega (arith, g.spent) };
    least = λ b h. (
        let below : rest < g.edge = elim g.near [ inl x ↦ omega (arith, x.0, g.spent) | inr x ↦ x.1 ] in
        let w = weigh g.edge n g.wrong b g.over g.under in
        let nb : g.edge * t ≤ g.edge * count n b + rest = omega (arith, ap (λ z. g.edge * z) g.number, g.spent) in
        smaller g.edge t (count n b) rest nb below);
  }

  -- where the changed strips are all named wrong
  complement : (p : ℕ → Bool) (n : ℕ) → count n (λ j. not (p j)) + count n p ≡ n
  complement p zero = refl
  complement p (suc n) = let ih = complement p n in elim (p n) as (λ b. (count n (λ j. not (p j)) + cond (not b) 1 0) + (count n p + cond b 1 0) ≡ suc n) [ true ↦ omega arith | false ↦ omega arith ]

  nothing : (n : ℕ) → total n (left_out d (λ j. not (eqb (d j) 0))) ≡ 0
  nothing zero = refl
  nothing (suc n) = let ih = nothing n in elim (cases_Bool (eqb (d n) 0)) [
    | inl e ↦ omega (arith, ap (λ b. cond (not b) 0 (d n)) e, eqb-true (d n) 0 e)
    | inr e ↦ omega (arith, ap (λ b. cond (not b) 0 (d n)) e)
  ]

  pub start : (n budget t : ℕ) → t ≡ n - count n (λ j. eqb (d j) 0) → Stage n budget d 1 t budget
  start n budget t e = record {
    wrong = λ j. not (eqb (d j) 0);
    number = omega (arith, complement (λ j. eqb (d j) 0) n);
    spent = omega (arith, nothing n);
    edge = 1;
    least = omega arith;
    over = λ j l h. elim (cases_Bool (eqb (d j) 0)) [ inl z ↦ absurd (true≢false (sym h ∙ ap not z)) | inr z ↦ elim (cases_eq (d j) 0) [ inl q ↦ absurd (eqb-false (d j) 0 z q) | inr q ↦ omega arith ] ];
    under = λ j l h. omega (arith, zeros j h);
    near = inl (refl, λ j l h. omega (arith, zeros j h));
  }
    where
      zeros : (j : ℕ) → not (eqb (d j) 0) ≡ false → d j ≡ 0
      zeros j h = elim (cases_Bool (eqb (d j) 0)) [ inl z ↦ eqb-true (d j) 0 z | inr z ↦ absurd (true≢false (sym (ap not z) ∙ h)) ]

first_on : (p : ℕ → Bool) (k j : ℕ) → p j ≡ true → count j p < k → first p k j ≡ true
unfolding first
first_on p k j e l = let z = lt-ltb (count j p) k l in cc

first_off : (p : ℕ → Bool) (k j : ℕ) → p j ≡ false → first p k j ≡ false
unfolding first
first_off p k j e = cc

first_late : (p : ℕ → Bool) (k j : ℕ) → k ≤ count j p → first p k j ≡ false
unfolding first
first_late p k j l = let z = le-ltb (count j p) k l in elim (cases_Bool (p j)) [ inl e ↦ cc | inr e ↦ cc ]

first_passes : (p : ℕ → Bool) (k j : ℕ) → first p k j ≡ true → p j ≡ true
first_passes p k j e = elim (cases_Bool (p j)) [ inl h ↦ h | inr h ↦ absurd (true≢false (sym e ∙ first_off p k j h)) ]

first_few : (p : ℕ → Bool) (k n : ℕ) → count n p ≤ k → count n (first p k) ≡ count n p
first_few p k zero l = refl
first_few p k (suc n) l = elim (cases_Bool (p n)) [
  | inl e ↦ (let s = count_true p n e in omega (arith, first_few p k n (omega arith), count_true (first p k) n (first_on p k n e (omega arith))))
  | inr e ↦ (let s = count_false p n e in omega (arith, first_few p k n (omega arith), count_false (first p k) n (first_off p k n e)))
]

first_all : (p : ℕ → Bool) (k n : ℕ) → k ≤ count n p → count n (first p k) ≡ k
first_all p k zero l = omega arith
first_all p k (suc n) l = elim (cases_Bool (p n)) [
  | inl e ↦ (let s = count_true p n e in elim (cases_lt (count n p) k) [
    | inl h ↦ omega (arith, first_few p k n (omega arith), count_true (first p k) n (first_on p k n e h))
    | inr h ↦ omega (arith, first_all p k n h, count_false (first p k) n (first_late p k n h))
  ])
  | inr e ↦ (let s = count_false p n e in omega (arith, first_all p k n (omega arith), count_false (first p k) n (first_off p k n e)))
]

of_size : (ℕ → ℕ) → ℕ → ℕ → Bool
of_size d s j = eqb (d j) s

-- the first k strips of size s are left out too
module _ (d : ℕ → ℕ) (wrong : ℕ → Bool) (s k : ℕ) where
  after : ℕ → Bool
  after j = wrong j && not (first (of_size d s) k j)

  after_out : (j : ℕ) → first (of_size d s) k j ≡ true → after j ≡ false
  unfolding after
  after_out j e = elim (cases_Bool (wrong j)) [ inl h ↦ cc | inr h ↦ cc ]

  after_same : (j : ℕ) → first (of_size d s) k j ≡ false → after j ≡ wrong j
  unfolding after
  after_same j e = elim (cases_Bool (wrong j)) [ inl h ↦ cc | inr h ↦ cc ]

  size_is : (j : ℕ) → first (of_size d s) k j ≡ true → d j ≡ s
  unfolding of_size
  size_is j e = eqb-true (d j) s (first_passes (of_size d s) k j e)

  after_count : (n : ℕ) → ((j : ℕ) → j < n → d j ≡ s → wrong j ≡ true) → count n after + count n (first (of_size d s) k) ≡ count n wrong
  after_count zero all = refl
  after_count (suc n) all =
      let ih = after_count n (λ j l. all j (omega arith)) in
      elim (cases_Bool (first (of_size d s) k n)) [
        | inl e ↦ omega (arith, count_true (first (of_size d s) k) n e, count_false after n (after_out n e), count_true wrong n (all n (omega arith) (size_is n e)))
        | inr e ↦ omega (arith, count_false (first (of_size d s) k) n e, ap (λ b. cond {A = ℕ} b 1 0) (after_same n e))
      ]

  after_total : (n : ℕ) → ((j : ℕ) → j < n → d j ≡ s → wrong j ≡ true) → total n (left_out d after) ≡ total n (left_out d wrong) + count n (first (of_size d s) k) * s
  after_total zero all = omega (arith, zero-mul s)
  after_total (suc n) all =
      let ih = after_total n (λ j l. all j (omega arith)) in
      elim (cases_Bool (first (of_size d s) k n)) [
        | inl e ↦ omega (arith, size_is n e, ap (λ b. cond b 0 (d n)) (after_out n e), ap (λ b. cond b 0 (d n)) (all n (omega arith) (size_is n e)), ap (λ z. z * s) (count_true (first (of_size d s) k) n e ∙ add-one (count n (first (of_size d s) k))), suc-mul (count n (first (of_size d s) k)) s)
        | inr e ↦ omega (arith, ap (λ b. cond b 0 (d n)) (after_same n e), ap (λ z. z * s) (count_false (first (of_size d s) k) n e))
      ]

module _ (d : ℕ → ℕ) (n budget s t rest k : ℕ) where
  too_dear : Spared (count n (λ j. eqb (d j) s)) rest s k → rest < s → k ≡ 0
  too_dear h l = elim (cases_eq k 0) [
    | inl e ↦ e
    | inr e ↦ absurd (let le : 1 * s ≤ k * s = mul-le-mul_right s (let o : 1 ≤ k = omega arith in o) in omega (arith, one-mul s, h.paid))
  ]

  spare : Stage n budget d s t rest → Spared (count n (λ j. eqb (d j) s)) rest s k → Stage n budget d (s + 1) (t - k) (rest - k * s)
  unfolding of_size
  spare g h = elim g.near [
    | inr x ↦ (
        let none : k ≡ 0 = too_dear h (omega (arith, x.0, x.1)) in
        let free : k * s ≡ 0 = ap (λ z. z * s) none ∙ zero-mul s in
        record {
          wrong = g.wrong;
          number = omega (arith, g.number);
          spent = omega (arith, g.spent);
          edge = g.edge;
          least = g.least;
          over = g.over;
          under = g.under;
          near = inr (omega (arith, x.0), omega (arith, x.1));
        })
    | inl x ↦ (
        let all : (j : ℕ) → j < n → d j ≡ s → g.wrong j ≡ true = λ j l e. elim (cases_Bool (g.wrong j)) [ inl y ↦ y | inr y ↦ absurd (omega (arith, x.1 j l y)) ] in
        let few : count n (first (of_size d s) k) ≡ k = first_all (of_size d s) k n h.enough in
        let paid : count n (first (of_size d s) k) * s ≡ k * s = ap (λ z. z * s) few in
        let none : 1 ≤ s = omega (arith, g.least, x.0) in
        let number : count n (after d g.wrong s k) ≡ t - k = omega (arith, after_count d g.wrong s k n all, g.number) in
        let spent : total n (left_out d (after d g.wrong s k)) + (rest - k * s) ≡ budget = omega (arith, after_total d g.wrong s k n all, g.spent, h.paid) in
        let over : (j : ℕ) → j < n → after d g.wrong s k j ≡ true → s ≤ d j = λ j l e. elim (cases_Bool (first (of_size d s) k j)) [
          | inl y ↦ absurd (true≢false (sym e ∙ after_out d g.wrong s k j y))
          | inr y ↦ omega (arith, x.0, g.over j l (sym (after_same d g.wrong s k j y) ∙ e))
        ] in
        let under : (j : ℕ) → j < n → after d g.wrong s k j ≡ false → d j ≤ s = λ j l e. elim (cases_Bool (first (of_size d s) k j)) [
          | inl y ↦ omega (arith, size_is d g.wrong s k j y)
          | inr y ↦ omega (arith, x.1 j l (sym (after_same d g.wrong s k j y) ∙ e))
        ] in
        elim h.most [
          | inr y ↦ record { wrong = after d g.wrong s k; number = number; spent = spent; edge = s; least = none; over = over; under = under; near = inr (omega arith, omega arith) }
          | inl y ↦ record {
            wrong = after d g.wrong s k;
            number = number;
            spent = spent;
            edge = s + 1;
            least = omega arith;
            over = λ j l e. elim (cases_eq (d j) s) [
              | inl q ↦ (let r = count_room (of_size d s) j n l (eq-eqb (d j) s q) in absurd (true≢false (sym e ∙ after_out d g.wrong s k j (first_on (of_size d s) k j (eq-eqb (d j) s q) (omega (arith, y))))))
              | inr q ↦ omega (arith, over j l e)
            ];
            under = λ j l e. omega (arith, under j l e);
            near = inl (refl, λ j l e. omega (arith, under j l e));
          }
        ])
  ]

  -- no more are left out than are named wrong
  spare_room : Stage n budget d s t rest → Spared (count n (λ j. eqb (d j) s)) rest s k → k ≤ t
  unfolding of_size
  spare_room g h = elim g.near [
    | inr x ↦ omega (arith, too_dear h (omega (arith, x.0, x.1)))
    | inl x ↦ (
        let all : (j : ℕ) → j < n → d j ≡ s → g.wrong j ≡ true = λ j l e. elim (cases_Bool (g.wrong j)) [ inl y ↦ y | inr y ↦ absurd (omega (arith, x.1 j l y)) ] in
        let few : count n (first (of_size d s) k) ≡ k = first_all (of_size d s) k n h.enough in
        omega (arith, after_count d g.wrong s k n all, g.number))
  ]

-- as many are left out as there are, or as the rest allows
module _ (d : ℕ → ℕ) (n budget s t rest strips k : ℕ) (some : 0 < s) (found : strips ≡ count n (λ j. eqb (d j) s)) (out : k ≡ min strips (rest / s)) where
  spared : Spared strips rest s k
  spared = rw out (elim (cases_lt (rest / s) strips) [
    | inl h ↦ (let e : min strips (rest / s) ≡ rest / s = omega arith in
        rw e (record { enough = omega arith; paid = div-mul-le_self rest s; most = inr (lt-div-mul-add some) }))
    | inr h ↦ (let e : min strips (rest / s) ≡ strips = omega arith in
        let le : strips * s ≤ rest / s * s = mul-le-mul_right s h in
        rw e (record { enough = omega arith; paid = omega (arith, div-mul-le_self rest s); most = inl refl }))
  ])

  pub spare_most : Stage n budget d s t rest → Stage n budget d (s + 1) (t - k) (rest - k * s)
  spare_most g = spare d n budget s t rest k g (subst (λ z. Spared z rest s k) found spared)

  pub spare_most_room : Stage n budget d s t rest → k ≤ t
  spare_most_room g = spare_room d n budget s t rest k g (subst (λ z. Spared z rest s k) found spared)
