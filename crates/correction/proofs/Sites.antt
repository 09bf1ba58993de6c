-- What a site gives the row decoder: locators that are all different, and sums that are codes. Assumes nothing.
use Rattle.std.proofs.Common.{◌≡◌, ℕ, zero, suc, ◌+◌, ◌*◌, ◌<◌, ◌≤◌, Bool, List, length, get_or, sym, ◌∙◌, mul-le-mul_left, arith}
use Rattle.refusal.specs.Codes.{Below}
use Rattle.geometry.specs.Rule.{Rule}
use Rattle.laws.specs.Ops.{Ops, Laws}
use Rattle.algebra.specs.Showings.{count}
use Rattle.algebra.proofs.Codes.{at_code}
use Rattle.solver.specs.Sums.{Row, marked, fold_of}
use Rattle.frame.proofs.Columns.{powers_below}
use Rattle.frame.proofs.Completes.{powers_apart}
use Rattle.correction.specs.Nearing.{Site}

module _ (F : Ops) (L : Laws F) where
  pub narrow : (m n c : ℕ) → Rule F.order m n c → (n < F.order) × (n ≤ 255)
  narrow m n c rule = let up : n * 1 ≤ n * m = mul-le-mul_left n rule.0 in let l = rule.3 in (omega arith, omega (arith, L.order_most))

  pub site_row : (m n c : ℕ) (strips sums : List ℕ) (gone mask : List Bool) → Site F m n c strips gone → Below F.order sums → length sums ≡ c → length mask ≡ n
      → count n (marked mask) ≤ c → Row F strips sums mask
  site_row m n c strips sums gone mask site below size marks room =
      let wide = narrow m n c site.rule in
      let ls = site.size in
      let cn = site.rule.2 in
      record {
        size = marks ∙ sym ls;
        points_below = powers_below F L 0 0 F.generator strips site.powers;
        apart = powers_apart F L strips site.powers (omega (arith, wide.0));
        sums_below = below;
        room = rw ls (rw size room);
        short = omega (arith, wide.1);
        narrow = omega (arith, wide.1);
      }

  pub fold_code : (points table : List ℕ) (c i : ℕ) → Below F.order table → (k h : ℕ) → fold_of F points (λ h. get_or table (h * c + i) 0) k h < F.order
  fold_code points table c i b zero h = at_code F L table b (h * c + i)
  fold_code points table c i b (suc k) h = L.add_code _ _
