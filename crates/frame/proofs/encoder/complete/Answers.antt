use Rattle.std.proofs.Common.{◌≡◌, ℕ, ◌+◌, ◌-◌, ◌*◌, ◌<◌, ◌≤◌, List, length, get_or, sym, ap, ◌∙◌, mul-le-mul_right, add-mul, mul-le-mul_left, mul-one, arith}
use borrow.Rule.Slice.PartMut.{put_mid, same_len_mid}
use Rattle.solver.proofs.Parts.{part, length_part, put_before, put_in}
use Rattle.frame.specs.Tables.{CheckStrips}
use Rattle.frame.proofs.Completes.{tail_apart, powers_apart, powers_tail, completed}
use Rattle.frame.proofs.encoder.complete.Goals as goal

-- the strips before the check strips lie within all
before : (k v n m : ℕ) → n ≡ k + v → k * m ≤ n * m
before k v n m e = let h : k ≤ n = omega arith in mul-le-mul_right m h

-- what is left behind them is the check strips
rest : (k v n m : ℕ) → n ≡ k + v → n * m - k * m ≡ v * m
rest k v n m e = let s = ap (λ z. z * m) e ∙ add-mul k v m in omega arith

-- and of a list for all squares as many are left as the check strips have
rest_size : (k v n m a b : ℕ) (strips xs : List ℕ) → n ≡ k + v → a ≡ k → b ≡ k * m → length strips ≡ n → length xs ≡ n * m
    → length (part b (length xs) xs) ≡ length (part a (length strips) strips) * m
rest_size k v n m a b strips xs e ea eb ls lx =
    let inside = before k v n m e in
    let left = rest k v n m e in
    let one : length (part a (length strips) strips) ≡ v = length_part a (length strips) strips (omega arith) ∙ omega arith in
    let two = length_part b (length xs) xs (omega arith) in
    let whole = ap (λ z. z * m) one in
    omega arith

pub fill_checks-requires-clause-squares_size : goal.fill_checks-requires-clause-squares_size
fill_checks-requires-clause-squares_size g c =
    let geo = c.args.geometry.now in
    rw c.squares-m.ensures (rest_size (geo.strips - geo.checks) geo.checks geo.strips geo.squares _ _ c.first-strips.result.now c.first-squares.result.now
    (omega (arith, geo.rule.2)) (omega arith) c.record_size-record.ensures (omega arith) (omega arith))

pub fill_checks-requires-clause-strips_size : goal.fill_checks-requires-clause-strips_size
fill_checks-requires-clause-strips_size g c =
    let geo = c.args.geometry.now in
    rw c.squares-m.ensures (rest_size (geo.strips - geo.checks) geo.checks geo.strips geo.squares _ _ c.first-strips.result.now c.args.frame.now
    (omega (arith, geo.rule.2)) (omega arith) c.record_size-record.ensures (omega arith) c.requires.size)

pub fill_checks-requires-clause-below : goal.fill_checks-requires-clause-below
fill_checks-requires-clause-below g c = powers_tail g.F.Field.ops g.met.F.Field.lawful _ c.first-strips.result.now c.first-strips.ensures.powers

pub fill_checks-requires-clause-apart : goal.fill_checks-requires-clause-apart
fill_checks-requires-clause-apart g c =
    let geo = c.args.geometry.now in
    let strips = c.first-strips.result.now in
    let short : length strips < g.F.Field.ops.order = omega (arith, mul-one geo.strips, mul-le-mul_left geo.strips geo.rule.0, geo.rule.3) in
    tail_apart (c.strips-2.result - c.checks-c.result) (length strips) strips (omega arith) (powers_apart g.F.Field.ops g.met.F.Field.lawful strips c.first-strips.ensures.powers short)

pub fill_checks-requires-clause-squares_below : goal.fill_checks-requires-clause-squares_below
fill_checks-requires-clause-squares_below g c = powers_tail g.F.Field.ops g.met.F.Field.lawful _ c.first-squares.result.now c.first-squares.ensures.powers

pub returns : goal.returns
returns g c =
    let F = g.F.Field.ops in
    let L = g.met.F.Field.lawful in
    let geo = c.args.geometry.now in
    let m = geo.squares in
    let n = geo.strips in
    let v = geo.checks in
    let strips = c.first-strips.result.now in
    let squares = c.first-squares.result.now in
    let frame = c.args.frame.now in
    let tail = c.fill_checks.new.strips in
    let r = c.record_size-record.result in
    let k = n - v in
    let all : n ≡ k + v = omega (arith, geo.rule.2) in
    let left = rest k v n m all in
    let inside = before k v n m all in
    let start : r ≡ k * m = c.record_size-record.ensures in
    let three = length_part r (length frame) frame (omega arith) in
    let size : length tail ≡ v * m = omega (arith, c.fill_checks.auto.strips) in
    let long = same_len_mid r (length frame - r) frame tail c.fill_checks.auto.strips in
    let made : CheckStrips F m (part k (length strips) strips) (part (k * m) (length squares) squares) c.check_sums.new.table tail
    = rw (c.squares-m.ensures, c.strips-2.ensures, c.checks-c.ensures, c.record_size-record.ensures) at c.fill_checks.ensures.value in
    let xs = put_mid r (length frame - r) frame tail in
    record {
      value = completed F L m n v k all strips squares frame c.check_sums.new.table tail xs
          c.first-strips.ensures.powers c.first-squares.ensures.powers (omega arith) (omega arith) c.requires.size (long ∙ c.requires.size) c.requires.below c.requires.blank
          c.check_sums.ensures.value made size
          (λ p l. put_before r (length frame - r) frame tail p (omega arith) (omega arith))
          (λ p l. ap (λ z. get_or xs (z + p) 0) (sym start) ∙ put_in r (length frame - r) frame tail p (omega arith) (omega arith));
    }
