-- A geometry of a field of at most 256 codes is small. Assumes nothing.
use Rattle.std.proofs.Common.{ℕ, ◌*◌, ◌≤◌, mul_comm, mul-le-mul_left, mul-one, arith}
use Rattle.geometry.specs.Rule.{Rule}

pub record Small (m n c : ℕ) : Type 0 where
  pub squares : m ≤ 255
  pub strips : n ≤ 255
  pub checks : c ≤ 255
  pub all : n * m ≤ 255
  pub sums : m * c ≤ 255

pub small : (q m n c : ℕ) → q ≤ 256 → Rule q m n c → Small m n c
small q m n c h r =
    let s : c ≤ n = omega (arith, r.2) in
    let some : 1 ≤ n = omega (arith, r.2) in
    let a : n * m ≤ 255 = omega (arith, r.3) in
    let b : n * 1 ≤ n * m = mul-le-mul_left n r.0 in
    let d : m * 1 ≤ m * n = mul-le-mul_left m some in
    let e : m * c ≤ m * n = mul-le-mul_left m s in
    let x = mul-one n in let y = mul-one m in let z = mul_comm m n in
    record { squares = omega arith; strips = omega arith; checks = omega arith; all = a; sums = omega arith }
