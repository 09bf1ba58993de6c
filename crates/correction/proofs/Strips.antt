-- No doubtful square left: the rows give each strip's power sums, and these its errors, whichever frame is near. Assumes nothing.
use Rattle.std.proofs.Common.{◌≡◌, ℕ, ◌+◌, ◌-◌, ◌*◌, ◌/◌, ◌%◌, ◌<◌, Bool, List, [], length, get_or, take, drop, sym, ap, ◌∙◌, subst, inl, inr, mod-lt, div-lt_iff_lt-mul, div-add-mod', arith}
use Prim.Native.Nat.{Fin}
use lib.Arith.{digits_lt}
use Rattle.std.proofs.lemmas.Nat.{same_from_place}
use Rattle.std.proofs.lemmas.List.{ext_get_or}
use Rattle.std.proofs.lemmas.Bool.{cases_eq}
use Rattle.refusal.specs.Codes.{Below}
use Rattle.laws.specs.Ops.{Ops, Laws, less, power as power_f, sum as sum_f}
use Rattle.algebra.specs.Frames.{square_locator}
use Rattle.algebra.proofs.Ring.{less_less}
use Rattle.algebra.proofs.Moments.{moment}
use Rattle.algebra.proofs.Codes.{codes, at, β_apart, sum_val, power_val}
use Rattle.algebra.proofs.Squares as Q
use Rattle.solver.specs.Sums.{Word, marked}
use Rattle.frame.specs.Tables.{Powers, FilledIn, Scattered}
use Rattle.frame.proofs.Strips.{part_size, part_at}
use Rattle.frame.proofs.Columns.{column_powers}
use Rattle.correction.specs.Nearing.{Near, Held, Site, Found, Decodes}
use Rattle.correction.proofs.Checks.{table_below}
use Rattle.correction.proofs.Rows.{answer}
use Rattle.correction.proofs.Steps.{β, error, error_sums, error_lies}

-- a table that is filled row by row has codes only
pub found_below : (F : Ops) (m n c : ℕ) (strips : List ℕ) (gone : List Bool) → Site F m n c strips gone → (table columns : List ℕ) → length columns ≡ n * m
    → Found F m c m strips gone table columns → Below F.order columns
found_below F m n c strips gone site table columns size found p l =
    let d = div-add-mod' p m in
    let r : p / m < n = (div-lt_iff_lt-mul site.rule.0).1 (omega arith) in
    subst (λ (z : ℕ). z < F.order) (ap (λ z. get_or columns z 0) d) (found.below (p % m) (p / m) (mod-lt p site.rule.0) (omega (arith, site.size)))

module _ (F : Ops) (L : Laws F) (m n c : ℕ) (strips : List ℕ) (gone : List Bool) (site : Site F m n c strips gone) (locators : List ℕ)
    (powers : Powers F F.generator locators) (wide : length locators ≡ n * m) (xs table : List ℕ) (held : Held F m n c xs table)
    (columns solved : List ℕ) (columns_size : length columns ≡ n * m) (solved_size : length solved ≡ n * m)
    (found : Found F m c m strips gone table columns) (filled : FilledIn F m n locators columns solved) where
  codes_found : Below F.order columns
  codes_found = found_below F m n c strips gone site table columns columns_size found

  solved_below : Below F.order solved
  solved_below p l = filled.below p (omega arith)

  abbrev b : ℕ → Fin F.order
  b = β F L m n c strips gone site

  solved_sums : (j h : ℕ) → j < n → h < m → (moment (codes F L) m (λ κ. b (j * m + κ)) (λ κ. at F L solved solved_below (j * m + κ)) h).0 ≡ get_or columns (j * m + h) 0
  solved_sums j h lj lh =
      (let e : (moment (codes F L) m (λ κ. b (j * m + κ)) (λ κ. at F L solved solved_below (j * m + κ)) h).0
      ≡ sum_f F m (λ κ. F.mul (get_or solved (j * m + κ) 0) (power_f F (square_locator F (j * m + κ)) h)) = simp (sum_val, power_val) in e)
      ∙ sym (column_powers F L m n locators solved powers wide j h lj) ∙ filled.sums j h lj lh

  module _ (wrong : ℕ → Bool) (ys : List ℕ) (near : Near F m n c (marked gone) wrong [] 0 xs ys) where
    error_solved : (j κ : ℕ) → j < n → κ < m → at F L solved solved_below (j * m + κ) ≡ error F L m n c strips gone site xs ys held.below near.frame.codes (j * m + κ)
    error_solved j κ lj lκ =
        Q.strips (codes F L) n m b b site.rule.0 c (marked gone) wrong (error F L m n c strips gone site xs ys held.below near.frame.codes)
        (λ h i. at F L table (table_below F L m n c site.rule xs table held) (h * c + i)) (error_sums F L m n c strips gone site xs table ys held wrong [] 0 near)
        (λ p l g w. elim (error_lies F L m n c strips gone site xs ys held.below wrong [] 0 near p l g w) [ inl z ↦ inl z | inr h ↦ absurd (omega (arith, h.2)) ]) (omega (arith, near.room)) (λ h j. at F L columns codes_found (j * m + h))
        (λ h lh. answer F L m n c site.rule strips (take (h * c + c - h * c) (drop (h * c) table)) gone (λ j. at F L columns codes_found (j * m + h)) site.powers site.size
        (part_size c m h table lh held.table_size) (found.is h lh)
        (λ i. at F L table (table_below F L m n c site.rule xs table held) (h * c + i)) (λ i li. sym (part_at c h table i li)))
        j lj (λ κ. at F L solved solved_below (j * m + κ))
        (λ κ κ' l l' ne. β_apart F L m n c site.rule.0 site.rule.3 (j * m + κ) (j * m + κ') (digits_lt lj l) (digits_lt lj l') (λ e. ne (omega arith)))
        (λ h lh. native.Mathlib.Fin.val_path (solved_sums j h lj lh)) κ lκ

    pub error_taken : (p : ℕ) → p < n * m → less F (get_or xs p 0) (get_or solved p 0) ≡ get_or ys p 0
    error_taken p l =
        let d = div-add-mod' p m in
        let r : p / m < n = (div-lt_iff_lt-mul site.rule.0).1 l in
        let e = subst (λ q. at F L solved solved_below q ≡ error F L m n c strips gone site xs ys held.below near.frame.codes q) d (error_solved (p / m) (p % m) r (mod-lt p site.rule.0)) in
        ap (λ z. less F (get_or xs p 0) z.0) e ∙ ap (λ z. z.0) (less_less (codes F L) (at F L xs held.below p) (at F L ys near.frame.codes p))

    pub restored : (after : List ℕ) → length after ≡ n * m → ((p : ℕ) → p < n * m → get_or after p 0 ≡ less F (get_or xs p 0) (get_or solved p 0)) → after ≡ ys
    restored after size is = ext_get_or 0 after ys (size ∙ sym near.frame.size) (λ p l. is p (omega arith) ∙ error_taken p (omega arith))

-- the errors of one row more
pub found_more : (F : Ops) (m c h : ℕ) (strips : List ℕ) (gone : List Bool) (table columns columns' row : List ℕ) → h < m → length row ≡ length strips
    → Found F m c h strips gone table columns → Scattered m h (length row) row columns columns' → Below F.order row
    → Decodes F strips (take (h * c + c - h * c) (drop (h * c) table)) gone row → Found F m c (h + 1) strips gone table columns'
found_more F m c h strips gone table columns columns' row lh size found put below is = record {
  below = λ k j lk lj. elim (cases_eq k h) [
    | inl e ↦ rw (ap (λ t. get_or columns' (j * m + t) 0) e ∙ put.there j (omega arith)) (below j (omega arith))
    | inr ne ↦ rw (put.others (j * m + k) (λ i _ e. ne (same_from_place j k i h m (omega arith) lh e).1)) (found.below k j (omega arith) lj)
  ];
  is = λ k lk wrong e word j lj. elim (cases_eq k h) [
    | inl q ↦ ap (λ t. get_or columns' (j * m + t) 0) q ∙ put.there j (omega arith)
        ∙ is wrong e (subst (λ (t : ℕ). Word F strips (take (t * c + c - t * c) (drop (t * c) table)) gone wrong e) q word) j lj
    | inr ne ↦ put.others (j * m + k) (λ i _ e. ne (same_from_place j k i h m (omega arith) lh e).1) ∙ found.is k (omega arith) wrong e word j lj
  ];
}
