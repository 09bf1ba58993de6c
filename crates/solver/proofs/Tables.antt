-- One turn over a table of rows. Assumes nothing.
use Rattle.std.proofs.Common.{◌≡◌, ℕ, suc, ◌+◌, ◌-◌, ◌*◌, ◌<◌, ◌≤◌, List, length, get_or, sym, ap, ◌∙◌, inl, inr, mul-le-mul_right, suc-mul, add-one, arith}
use borrow.Rule.Slice.PartMut.{put_mid}
use Rattle.std.proofs.lemmas.Bool.{cases_eq}
use Rattle.laws.specs.Ops.{Ops, power}
use Rattle.laws.specs.Ops.{less}
use Rattle.solver.specs.Sums.{TakenRow, Taken, Peeled, fold_of}
use Rattle.solver.proofs.Parts.{part, length_part, get_d_part, put_in, put_before, put_after}

pub table_more : (F : Ops) (x a b c h y : ℕ) (xs ys row : List ℕ) → Taken F x a b c h xs ys → h * c + c ≤ length ys → length row ≡ c → y ≡ F.mul x (power F b h)
    → TakenRow F y a (length (part (h * c) (h * c + c) ys)) (part (h * c) (h * c + c) ys) row → Taken F x a b c (h + 1) xs (put_mid (h * c) (h * c + c - h * c) ys row)
table_more F x a b c h y xs ys row t room size is r =
    let lp = length_part (h * c) (h * c + c) ys room in
    record {
      done = λ k i m l. elim (cases_eq k h) [
        | inl q ↦ ap (λ j. get_or (put_mid (h * c) (h * c + c - h * c) ys row) (j * c + i) 0) q
            ∙ put_in (h * c) (h * c + c - h * c) ys row i (omega arith) (omega arith)
            ∙ r.done i (omega arith)
            ∙ ap (λ z. less F z (F.mul y (power F a i))) (get_d_part (h * c) (h * c + c) ys i (omega arith) ∙ t.later (h * c + i) (omega arith))
            ∙ ap (λ z. less F (get_or xs (h * c + i) 0) (F.mul z (power F a i))) is
            ∙ ap (λ j. less F (get_or xs (j * c + i) 0) (F.mul (F.mul x (power F b j)) (power F a i))) (sym q)
        | inr n ↦ (let s : suc k ≤ h = omega arith in let up = mul-le-mul_right c s in let e = suc-mul k c in
            put_before (h * c) (h * c + c - h * c) ys row (k * c + i) (omega arith) (omega arith) ∙ t.done k i s l)
      ];
      later = λ k m. let e : (h + 1) * c ≡ h * c + c = rw (add-one h) (suc-mul h c) in
          put_after (h * c) (h * c + c - h * c) ys row k (omega arith) (omega arith) (omega arith) ∙ t.later k (omega arith);
    }

pub fold_more : (F : Ops) (points : List ℕ) (v : ℕ → ℕ) (k n : ℕ) (work ps : List ℕ) → ((j : ℕ) → k + j ≤ n → get_or work (k + j) 0 ≡ fold_of F points v k j)
    → k < n → length work ≡ n + 1 → length ps ≡ length (part k (length work) work) → Peeled F (get_or points k 0) (part k (length work) work) ps
    → (j : ℕ) → k + 1 + j ≤ n → get_or (put_mid k (length work - k) work ps) (k + 1 + j) 0 ≡ fold_of F points v (k + 1) j
fold_more F points v k n work ps h l room size peeled j m =
    let lp = length_part k (length work) work (omega arith) in
    rw (add-one k) (
    ap (λ q. get_or (put_mid k (length work - k) work ps) q 0) (let z : suc k + j ≡ k + suc j = omega arith in z)
    ∙ put_in k (length work - k) work ps (suc j) (omega arith) (omega arith)
    ∙ peeled.next j (omega arith)
    ∙ cc (get_d_part k (length work) work (suc j) (omega arith), get_d_part k (length work) work j (omega arith), h (suc j) (omega arith), h j (omega arith)))
