-- One doubtful square: the error that the row decoder finds is that of every frame near, unless its strip is gone or wrong. Assumes nothing.
use Rattle.std.proofs.Common.{◌≡◌, ℕ, zero, suc, ◌+◌, ◌-◌, ◌*◌, ◌/◌, ◌<◌, ◌≤◌, Bool, true, false, cond, ◌≢◌, ◌⊎◌, List, length, get_or, set, sym, ap, ◌∙◌, inl, inr, div-lt_iff_lt-mul, arith, get_or-set_other, get_or-set_same}
use Prim.Native.Nat.{Fin}
use Rattle.std.proofs.lemmas.Bool.{cases_eq, cases_Bool, true≢false}
use Rattle.refusal.specs.Codes.{Below}
use Rattle.geometry.specs.Rule.{Rule}
use Rattle.laws.specs.Ops.{Ops, Laws, less}
use Rattle.algebra.specs.Showings.{count}
use Rattle.algebra.proofs.Counting.{count_cong}
use Rattle.algebra.proofs.Ring.{less_none, less_less}
use Rattle.algebra.proofs.Rows.{struck}
use Rattle.algebra.proofs.Codes.{codes, at, β_apart, check_code, balanced}
use Rattle.algebra.proofs.Squares as Q
use Rattle.solver.specs.Sums.{marked, fold_of}
use Rattle.correction.specs.Nearing.{Ahead, Near, Held, Site, Listed, Decodes, gaps}
use Rattle.correction.proofs.Checks.{loc, loc_val, table_below}
use Rattle.correction.proofs.Rows.{struck_val, factor_val, answer}

-- one mark more
pub count_set : (k : ℕ) (gone : List Bool) (j : ℕ) → j < length gone → count k (marked (set gone j true)) ≤ suc (count k (marked gone))
count_set zero gone j l = omega arith
count_set (suc k) gone j l = elim (cases_eq k j) [
  | inl e ↦ (let low = count_cong k (marked (set gone j true)) (marked gone) (λ i l. get_or-set_other gone j i true false (λ q. omega arith)) in let top = one (marked (set gone j true) k) in omega arith)
  | inr ne ↦ (let e : ◌≡◌ {A = ℕ} (cond (marked (set gone j true) k) 1 0) (cond (marked gone k) 1 0) = ap (λ b. cond b 1 0) (get_or-set_other gone j k true false ne) in let ih = count_set k gone j l in omega arith)
]
  where
    one : (b : Bool) → cond b 1 0 ≤ 1
    one true = omega arith
    one false = omega arith

pub set_false : (gone : List Bool) (j i : ℕ) → j < length gone → marked (set gone j true) i ≡ false → (marked gone i ≡ false) × (i ≢ j)
set_false gone j i l h = elim (cases_eq i j) [
  | inl e ↦ absurd (true≢false (sym (ap (λ t. get_or (set gone j true) t false) e ∙ get_or-set_same gone j true false l) ∙ h))
  | inr ne ↦ (sym (get_or-set_other gone j i true false ne) ∙ h, ne)
]

module _ (F : Ops) (L : Laws F) (m n c : ℕ) (strips : List ℕ) (gone : List Bool) (site : Site F m n c strips gone) where
  abbrev rule : Rule F.order m n c
  rule = site.rule

  abbrev pub β : ℕ → Fin F.order
  β = loc F L m n c site.rule

  -- the error of an array against a frame
  abbrev pub error : (xs ys : List ℕ) → Below F.order xs → Below F.order ys → ℕ → Fin F.order
  error xs ys bx by p = (codes F L).◌⊕◌ (at F L xs bx p) ((codes F L).⊖◌ (at F L ys by p))

  pub error_none : (xs ys : List ℕ) (bx : Below F.order xs) (by : Below F.order ys) (p : ℕ) → get_or xs p 0 ≡ get_or ys p 0 → error xs ys bx by p ≡ (codes F L).𝟘
  error_none xs ys bx by p e = native.Mathlib.Fin.val_path (ap (λ t. less F t (get_or ys p 0)) e ∙ L.add_neg (get_or ys p 0) (at F L ys by p).1)

  -- the table has the sums of the error
  pub error_sums : (xs table ys : List ℕ) (held : Held F m n c xs table) (wrong : ℕ → Bool) (squares : List ℕ) (k : ℕ) (near : Near F m n c (marked gone) wrong squares k xs ys)
      (h i : ℕ) → h < m → i < c
      → at F L table (table_below F L m n c site.rule xs table held) (h * c + i) ≡ Q.check (codes F L) n m β β (error xs ys held.below near.frame.codes) h i
  error_sums xs table ys held wrong squares k near h i lh li =
      native.Mathlib.Fin.val_path (held.sums.sums h i lh li ∙ sym (check_code F L m n c site.rule.0 site.rule.3 xs held.below h i))
      ∙ sym (Q.check_less (codes F L) n m β β (at F L xs held.below) (at F L ys near.frame.codes) h i
      ∙ less_none (codes F L) (Q.check (codes F L) n m β β (at F L xs held.below) h i) (Q.check (codes F L) n m β β (at F L ys near.frame.codes) h i) (balanced F L m n c site.rule.0 site.rule.3 ys near.frame h i lh li))

  -- and the error lies in the strips that are gone or wrong, and at the listed squares
  pub error_lies : (xs ys : List ℕ) (bx : Below F.order xs) (wrong : ℕ → Bool) (squares : List ℕ) (k : ℕ) (near : Near F m n c (marked gone) wrong squares k xs ys)
      → Q.Support (codes F L) n m β β (error xs ys bx near.frame.codes) (marked gone) wrong (Ahead squares k)
  error_lies xs ys bx wrong squares k near p l g w = elim (near.agrees p l) [
    | inl e ↦ inl (error_none xs ys bx near.frame.codes p e)
    | inr (inl h) ↦ absurd (true≢false (sym h ∙ g))
    | inr (inr (inl h)) ↦ absurd (true≢false (sym h ∙ w))
    | inr (inr (inr h)) ↦ inr h
  ]

  module _ (squares points : List ℕ) (listed : Listed F m n squares points) (k : ℕ) (lk : k < length squares)
      (ahead : List ℕ) (rest_size : length ahead ≡ length squares - suc k) (rest_is : (i : ℕ) → i < length ahead → get_or ahead i 0 ≡ get_or points (suc k + i) 0) where
    abbrev s : ℕ
    s = get_or squares k 0

    abbrev f : ℕ → ℕ
    f i = get_or squares (suc k + i) 0

    ls : s < n * m
    ls = listed.places k lk

    lj : s / m < n
    lj = (div-lt_iff_lt-mul site.rule.0).1 ls

    ahead_val : (i : ℕ) → i < length ahead → get_or ahead i 0 ≡ (β (f i)).0
    ahead_val i l = rest_is i l ∙ listed.located (suc k + i) (omega arith) ∙ sym (loc_val F L m n c site.rule (f i))

    apart : (i : ℕ) → i < length ahead → β s ≢ β (f i)
    apart i l = β_apart F L m n c site.rule.0 site.rule.3 s (f i) ls (listed.places (suc k + i) (omega arith)) (λ e. let z = listed.apart k (suc k + i) lk (omega arith) e in omega arith)

    module _ (xs table sums : List ℕ) (held : Held F m n c xs table) (sums_size : length sums ≡ c)
        (sums_are : (i : ℕ) → i < c → get_or sums i 0 ≡ fold_of F ahead (λ h. get_or table (h * c + i) 0) (length ahead) 0)
        (out : List ℕ) (bo : Below F.order out) (is : Decodes F strips sums (set gone (s / m) true) out) where
      pub error_found : (wrong : ℕ → Bool) (ys : List ℕ) → Near F m n c (marked gone) wrong squares k xs ys → marked gone (s / m) ≡ false → wrong (s / m) ≡ false
          → F.mul (get_or out (s / m) 0) (F.inv (gaps F ahead (get_or points k 0) (length ahead))) ≡ less F (get_or xs s 0) (get_or ys s 0)
      error_found wrong ys near g w =
          ap (λ t. F.mul (get_or out (s / m) 0) (F.inv t)) (ap (λ x. gaps F ahead x (length ahead)) (listed.located k lk ∙ sym (loc_val F L m n c site.rule s)) ∙ sym (factor_val F L (λ i. β (f i)) ahead (β s) (length ahead) ahead_val))
          ∙ ap (λ z. z.0) (Q.doubt (codes F L) n m β β site.rule.0 c (marked gone) wrong (error xs ys held.below near.frame.codes)
          (λ h i. at F L table (table_below F L m n c site.rule xs table held) (h * c + i)) (error_sums xs table ys held wrong squares k near)
          s f (length ahead) ls support (omega (arith, listed.few)) apart
          (marked (set gone (s / m) true)) (λ j _ h. set_false gone (s / m) j (omega (arith, lj, site.marks)) h)
          (omega (arith, near.room, count_set n gone (s / m) (omega (arith, lj, site.marks)))) (at F L out bo)
          (answer F L m n c site.rule strips sums (set gone (s / m) true) (at F L out bo) site.powers site.size sums_size is
          (λ i. struck (codes F L) (λ t. β (f t)) (λ _. true) (λ h. at F L table (table_below F L m n c site.rule xs table held) (h * c + i)) (length ahead) 0)
          (λ i l. struck_val F L (λ t. β (f t)) ahead (λ h. at F L table (table_below F L m n c site.rule xs table held) (h * c + i)) (length ahead) ahead_val 0 ∙ sym (sums_are i l)))
          g w)
        where
          support : Q.Support (codes F L) n m β β (error xs ys held.below near.frame.codes) (marked gone) wrong (λ p. (p ≡ s) ⊎ ((t : ℕ) × (t < length ahead) × (f t ≡ p)))
          support p l g w = elim (error_lies xs ys held.below wrong squares k near p l g w) [
            | inl z ↦ inl z
            | inr (i, li, lu, e) ↦ inr (elim (cases_eq i k) [
              | inl q ↦ inl (sym e ∙ ap (λ t. get_or squares t 0) q)
              | inr ne ↦ inr (i - suc k, omega arith, ap (λ t. get_or squares t 0) (let z : suc k + (i - suc k) ≡ i = omega arith in z) ∙ e)
            ])
          ]

    -- and with the error taken away the array is nearer
    pub nearer : (xs ys : List ℕ) (x : ℕ) → length xs ≡ n * m → Below F.order xs → (wrong : ℕ → Bool) → Near F m n c (marked gone) wrong squares k xs ys
        → (marked gone (s / m) ≡ false → wrong (s / m) ≡ false → x ≡ less F (get_or xs s 0) (get_or ys s 0))
        → Near F m n c (marked gone) wrong squares (suc k) (set xs s (less F (get_or xs s 0) x)) ys
    nearer xs ys x size bx wrong near found = record {
      frame = near.frame;
      room = near.room;
      agrees = λ p l. elim (cases_eq p s) [
        | inl e ↦ elim (cases_Bool (marked gone (s / m))) [
          | inl g ↦ inr (inl (ap (λ t. marked gone (t / m)) e ∙ g))
          | inr g ↦ elim (cases_Bool (wrong (s / m))) [
            | inl w ↦ inr (inr (inl (ap (λ t. wrong (t / m)) e ∙ w)))
            | inr w ↦ inl (ap (λ t. get_or (set xs s (less F (get_or xs s 0) x)) t 0) e ∙ get_or-set_same xs s (less F (get_or xs s 0) x) 0 (omega (arith, ls)) ∙ ap (λ t. less F (get_or xs s 0) t) (found g w)
                ∙ ap (λ z. z.0) (less_less (codes F L) (at F L xs bx s) (at F L ys near.frame.codes s)) ∙ ap (λ t. get_or ys t 0) (sym e))
          ]
        ]
        | inr ne ↦ elim (near.agrees p l) [
          | inl e ↦ inl (get_or-set_other xs s p (less F (get_or xs s 0) x) 0 ne ∙ e)
          | inr (inl h) ↦ inr (inl h)
          | inr (inr (inl h)) ↦ inr (inr (inl h))
          | inr (inr (inr (i, li, lu, e))) ↦ inr (inr (inr (i, (let d : i ≢ k = λ q. ne (sym e ∙ ap (λ t. get_or squares t 0) q) in omega arith), lu, e)))
        ]
      ];
    }
