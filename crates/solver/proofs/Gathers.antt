-- One turn of gathering, scattering, choosing and striking. Assumes nothing.
use Rattle.std.proofs.Common.{◌≡◌, ℕ, zero, suc, ◌+◌, ◌-◌, ◌<◌, ◌≤◌, Bool, true, false, cond, ◌≢◌, List, length, get_or, set, take, sym, refl, ap, ◌∙◌, subst, inl, inr, add-one, arith, get_or-set_other, get_or-set_same, get_or-take}
use borrow.Rule.Slice.PartMut.{put_mid}
use Rattle.std.proofs.lemmas.Bool.{cases_eq}
use Rattle.laws.specs.Ops.{Ops}
use Rattle.algebra.specs.Showings.{count}
use Rattle.solver.specs.Sums.{marked, struck, value, Choice, Peeled}
use Rattle.algebra.proofs.Counting.{count_true, count_room}
use Rattle.solver.proofs.Parts.{part, length_part, get_d_part, put_in}

abbrev pub Gathered : List ℕ → (ℕ → Bool) → ℕ → ℕ → List ℕ → Type 0
Gathered points p j k out = (k ≡ count j p) × ((i : ℕ) → i < j → p i ≡ true → get_or out (count i p) 0 ≡ get_or points i 0)

pub gather_true : (points : List ℕ) (p : ℕ → Bool) (j k k' : ℕ) (out out' : List ℕ) → Gathered points p j k out → p j ≡ true → k < length out
    → out' ≡ set out k (get_or points j 0) → k' ≡ k + 1 → Gathered points p (j + 1) k' out'
gather_true points p j k k' out out' h e l eo ek = (
  ek ∙ (let s = h.0 in let q = count_true p j e in rw (add-one j) (cc)),
  λ i m pi. ap (λ o. get_or o (count i p) 0) eo ∙ elim (cases_eq i j) [
    | inl q ↦ ap (λ t. get_or (set out k (get_or points j 0)) (count t p) 0) q ∙ ap (λ t. get_or (set out k (get_or points j 0)) t 0) (sym h.0) ∙ get_or-set_same out k (get_or points j 0) 0 l ∙ ap (λ t. get_or points t 0) (sym q)
    | inr n ↦ get_or-set_other out k (count i p) (get_or points j 0) 0 (λ q. let r = count_room p i j (omega arith) pi in omega (arith, h.0)) ∙ h.1 i (omega arith) pi
  ],
)

abbrev pub Scattered : List ℕ → (ℕ → Bool) → ℕ → ℕ → List ℕ → Type 0
Scattered values p j k out = (k ≡ count j p) × ((i : ℕ) → i < j → get_or out i 0 ≡ cond (p i) (get_or values (count i p) 0) 0)

-- a mask that is set at j keeps its choices below
pub choice_more : (F : Ops) (points : List ℕ) (gone : List Bool) (ws : List ℕ) (n : ℕ) (mask mask' : List Bool) (j : ℕ) (b : Bool) → j < length mask → mask' ≡ set mask j b
    → ((i : ℕ) → i < j → Choice F points gone ws n mask i)
    → (b ≡ false → (marked gone j ≡ false) × (value F ws (get_or points j 0) 0 n ≢ 0)) → (b ≡ true → marked gone j ≡ false → value F ws (get_or points j 0) 0 n ≡ 0)
    → (i : ℕ) → i < j + 1 → Choice F points gone ws n mask' i
choice_more F points gone ws n mask mask' j b l e h out root i m = elim (cases_eq i j) [
  | inl q ↦ subst (λ t. Choice F points gone ws n mask' t) (sym q) (record { out = λ z. out (sym at ∙ z); root = λ z. root (sym at ∙ z) })
  | inr ne ↦ (let k = h i (omega arith) in let s : marked mask' i ≡ marked mask i = ap (λ o. marked o i) e ∙ get_or-set_other mask j i b false ne in
      record { out = λ z. k.out (sym s ∙ z); root = λ z. k.root (sym s ∙ z) })
]
  where
    at : marked mask' j ≡ b
    at = ap (λ o. marked o j) e ∙ get_or-set_same mask j b false l

-- the first n weights have the values that all have
value_take : (F : Ops) (ws : List ℕ) (x n k m : ℕ) → k + m ≤ n → value F (take n ws) x k m ≡ value F ws x k m
value_take F ws x n k zero h = refl
value_take F ws x n k (suc m) h = let ih = value_take F ws x n (suc k) m (omega arith) in let e = get_or-take n ws k 0 (omega arith) in cc

pub choice_front : (F : Ops) (points : List ℕ) (gone : List Bool) (ws : List ℕ) (n : ℕ) (mask : List Bool) (j : ℕ) → length (take n ws) ≡ n → Choice F points gone (take n ws) (length (take n ws)) mask j
    → Choice F points gone ws n mask j
choice_front F points gone ws n mask j l h =
    let e : value F (take n ws) (get_or points j 0) 0 (length (take n ws)) ≡ value F ws (get_or points j 0) 0 n = ap (value F (take n ws) (get_or points j 0) 0) l ∙ value_take F ws (get_or points j 0) n 0 n (omega arith) in
    record { out = λ z. ((h.out z).0, λ q. (h.out z).1 (e ∙ q)); root = λ z y. sym e ∙ h.root z y }

abbrev pub Struck : Ops → List ℕ → List Bool → List ℕ → ℕ → ℕ → List ℕ → Type 0
Struck F points gone vs j k values = (k ≡ count j (marked gone)) × ((i : ℕ) → k + i < length vs → get_or values (k + i) 0 ≡ struck F points gone vs j i)

pub strike_true : (F : Ops) (points : List ℕ) (gone : List Bool) (vs : List ℕ) (j k k' : ℕ) (values values' ps : List ℕ) → Struck F points gone vs j k values → marked gone j ≡ true
    → k < length values → length values ≡ length vs → length ps ≡ length values - k → Peeled F (get_or points j 0) (part k (length values) values) ps
    → values' ≡ put_mid k (length values - k) values ps → k' ≡ k + 1 → Struck F points gone vs (j + 1) k' values'
strike_true F points gone vs j k k' values values' ps h e l lv lp peeled ev ek = (
  ek ∙ (let s = h.0 in let q = count_true (marked gone) j e in rw (add-one j) (cc)),
  λ i m. rw (add-one j, e) (
      ap (λ o. get_or o (k' + i) 0) ev
      ∙ ap (λ t. get_or (put_mid k (length values - k) values ps) t 0) (let z : k' + i ≡ k + suc i = omega arith in z)
      ∙ put_in k (length values - k) values ps (suc i) (omega arith) (omega arith)
      ∙ peeled.next i (omega (arith, length_part k (length values) values (omega arith)))
      ∙ cc (get_d_part k (length values) values (suc i) (omega arith), get_d_part k (length values) values i (omega arith), h.1 (suc i) (omega arith), h.1 i (omega arith))),
)
