-- A power with one factor more. Assumes nothing.
use Rattle.std.proofs.Common.{◌≡◌, ℕ, suc, ◌<◌, ap, ◌∙◌}
use Rattle.laws.specs.Ops.{Ops, Laws, power}
use Rattle.solver.proofs.Parts.{power_code}

module _ (F : Ops) (L : Laws F) where
  pub raise : (w x k : ℕ) → w < F.order → x < F.order → F.mul (F.mul w (power F x k)) x ≡ F.mul w (power F x (suc k))
  raise w x k hw hx = L.mul_assoc w (power F x k) x hw (power_code F L x k) hx ∙ ap (F.mul w) (L.mul_comm (power F x k) x (power_code F L x k) hx)
