-- Bounds on the counts of a medium, and where a strip stands in a memory, from the laws of products. Assumes nothing.
use Rattle.std.proofs.Common.{ℕ, zero, suc, ◌+◌, ◌*◌, ◌<◌, ◌≤◌, ◌≢◌, ◌⊎◌, inl, inr, ⊎_elim, mul-le-mul_right, suc-mul, mul-le-mul, mul-zero, zero-mul, mul-suc, arith}
use Rattle.std.proofs.lemmas.Bool.{cases_order}
use Rattle.medium.specs.Limits.{Suited}

-- a row before the row b ends where b starts, or before
pub row_le : (a b w : ℕ) → a < b → a * w + w ≤ b * w
row_le a b w h = rw suc-mul at (mul-le-mul_right w (let k : suc a ≤ b = omega arith in k))

-- the counts of a frame with a square in it
pub some_each : (n m : ℕ) → 1 ≤ n * m → (1 ≤ n) × (1 ≤ m) × (n ≤ n * m) × (m ≤ n * m)
some_each zero m h = absurd (let z = zero-mul m in omega arith)
some_each (suc n) zero h = absurd (let z = mul-zero (suc n) in omega arith)
some_each (suc n) (suc m) h =
    let a = suc-mul n (suc m) in
    let b = mul-suc n m in
    (omega arith, omega arith, omega arith, omega arith)

-- a memory of strips of at most 511 bytes has fewer than 2^29
pub few_strips : (fs n m : ℕ) → Suited fs n m → fs * n ≤ 1044480
few_strips fs n m h =
    let e = some_each n m h.2 in
    let b : n ≤ 255 = omega arith in
    mul-le-mul h.1 b

pub few_bytes : (fs n m w : ℕ) → Suited fs n m → w ≤ 511 → fs * n * w ≤ 533729280
few_bytes fs n m w h l = mul-le-mul (few_strips fs n m h) l

-- Strips of w places each follow one another through all frames, n to a frame: strip s of frame f starts at place (f * n + s) * w.
module _ (fs n w : ℕ) where
  -- it lies in the memory
  pub strip_inside : (f s : ℕ) → f < fs → s < n → (f * n + s) * w + w ≤ fs * n * w
  strip_inside f s hf hs = let r = row_le f fs n hf in row_le (f * n + s) (fs * n) w (omega arith)

  -- in its frame
  pub strip_after : (f s : ℕ) → f * n * w ≤ (f * n + s) * w
  strip_after f s = mul-le-mul_right w (let h : f * n ≤ f * n + s = omega arith in h)

  pub strip_before : (f s : ℕ) → s < n → (f * n + s) * w + w ≤ (f * n + n) * w
  strip_before f s hs = row_le (f * n + s) (f * n + n) w (omega arith)

  -- and apart from another frame
  pub frames_apart : (f g : ℕ) → g ≢ f → ((g * n + n) * w ≤ f * n * w) ⊎ ((f * n + n) * w ≤ g * n * w)
  frames_apart f g ne =
      ⊎_elim (λ e. absurd (ne e)) (⊎_elim (λ h. inl (mul-le-mul_right w (row_le g f n h))) (λ h. inr (mul-le-mul_right w (row_le f g n h)))) (cases_order g f)
