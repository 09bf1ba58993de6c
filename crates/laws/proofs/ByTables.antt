-- Code by tables of powers and logarithms: exponents add up to a product, and their difference from q - 1 gives an inverse.
-- Assumes nothing.
use Rattle.std.proofs.Common.{◌≡◌, ℕ, zero, suc, ◌+◌, ◌-◌, ◌*◌, ◌^◌, ◌<◌, ◌≤◌, ltb, List, [], ◌∷◌, ◌++◌, get_or, replicate, sym, refl, ap, ◌∙◌, ap₂, inl, inr, ⊎_elim, arith, le-ltb, lt-ltb}
use lib.ListN.{get_or-eq_default}
use Rattle.std.proofs.lemmas.Bool.{cond-true, cond-false}
use Rattle.std.proofs.lemmas.Bool.Decides.{leb_tells}
use Rattle.laws.specs.Ops.{Ops, Laws, power}
use Rattle.laws.specs.Binary.{product, raise, binary}
use Rattle.laws.specs.Logarithms.{Log, antilog}
use Rattle.laws.proofs.Within.{in_2}
use Rattle.laws.proofs.Product as by
use Rattle.laws.proofs.Logs.{Logs, power_raise, exp_at, log_at, cycle_at, binary_laws}

-- zeros after a list change no entry, as what is beyond a list reads as 0
pub padded : (xs : List ℕ) (n k : ℕ) → get_or (xs ++ replicate n 0) k 0 ≡ get_or xs k 0
padded [] zero k = refl
padded [] (suc n) zero = refl
padded [] (suc n) (suc k) = padded [] n k
padded (x ∷ xs) n zero = refl
padded (x ∷ xs) n (suc k) = padded xs n k

-- the inverse of a is the only code that gives 1 with a
pub inverse_only : (F : Ops) → Laws F → (a r : ℕ) → a < F.order → r < F.order → (a ≡ 0 → ⊥) → F.mul a r ≡ 1 → r ≡ F.inv a
inverse_only F laws a r ha hr n e =
    let one : 1 < F.order = laws.order_least in
    let v = laws.inv_code a in
    sym (laws.mul_one r hr) ∙ ap (F.mul r) (sym (laws.mul_inv a ha n)) ∙ sym (laws.mul_assoc r a (F.inv a) hr ha v)
    ∙ ap (λ x. F.mul x (F.inv a)) (laws.mul_comm r a hr ha ∙ e) ∙ laws.mul_comm 1 (F.inv a) one v ∙ laws.mul_one (F.inv a) v

module _ {w m g : ℕ} {exp log : List ℕ} (logs : Logs w m g exp log) where
  antilog_in : (k : ℕ) → k < 2 * (2 ^ w - 1) → antilog (binary w m g) k ≡ raise (product w m) g k
  antilog_in k h = cond-true (ltb k (2 * (2 ^ w - 1))) (power (binary w m g) g k) 0 (lt-ltb k (2 * (2 ^ w - 1)) h) ∙ power_raise logs k

  antilog_out : (k : ℕ) → 2 * (2 ^ w - 1) ≤ k → antilog (binary w m g) k ≡ 0
  antilog_out k h = cond-false (ltb k (2 * (2 ^ w - 1))) (power (binary w m g) g k) 0 (le-ltb k (2 * (2 ^ w - 1)) h)

  -- the table of powers, read
  pub antilog_at : (k : ℕ) → get_or exp k 0 ≡ antilog (binary w m g) k
  antilog_at k =
      let l = logs.twice in
      ⊎_elim (λ t. get_or-eq_default exp 0 (omega arith) ∙ sym (antilog_out k t.1)) (λ t. exp_at logs k t.1 ∙ sym (antilog_in k t.1))
      (leb_tells (2 * (2 ^ w - 1)) k)

  -- the table of logarithms, read
  pub logarithm_at : get_or log 0 0 ≡ 2 * 2 ^ w → (a : ℕ) → a < 2 ^ w → Log (binary w m g) a (get_or log a 0)
  logarithm_at z zero h = inl (refl, z)
  logarithm_at z (suc a) h =
      let l = log_at logs (suc a) (omega arith) h in
      let b : get_or log (suc a) 0 < 2 ^ w - 1 = l.0 in
      inr (omega arith, power_raise logs (get_or log (suc a) 0) ∙ l.1)

  pub log_most : (a i : ℕ) → Log (binary w m g) a i → i ≤ 2 * 2 ^ w
  log_most a i = ⊎_elim (λ e. let z = e.1 in omega arith) (λ e. let l = e.0 in omega arith)

  pub product_by_logs : (a b i j : ℕ) → a < 2 ^ w → b < 2 ^ w → Log (binary w m g) a i → Log (binary w m g) b j → antilog (binary w m g) (i + j) ≡ (binary w m g).mul a b
  product_by_logs a b i j ha hb (inl e) y =
      let z : i ≡ 2 * 2 ^ w = e.1 in
      antilog_out (i + j) (omega arith) ∙ sym (in_2 (2 ^ w) a b _ ha hb ∙ ap (λ x. product w m x b) e.0 ∙ by.zero_mul w m b)
  product_by_logs a b i j ha hb (inr d) (inl e) =
      let z : j ≡ 2 * 2 ^ w = e.1 in
      antilog_out (i + j) (omega arith) ∙ sym (in_2 (2 ^ w) a b _ ha hb ∙ ap (product w m a) e.0 ∙ by.mul_zero_r w m a)
  product_by_logs a b i j ha hb (inr d) (inr e) =
      let hi : i + 1 < 2 ^ w = d.0 in
      let hj : j + 1 < 2 ^ w = e.0 in
      antilog_in (i + j) (omega arith) ∙ by.raise_add w m logs.tested g i j
      ∙ ap₂ (product w m) (sym (power_raise logs i) ∙ d.1) (sym (power_raise logs j) ∙ e.1) ∙ sym (in_2 (2 ^ w) a b _ ha hb)

  pub inverse_by_logs : (a i : ℕ) → a < 2 ^ w → (a ≡ 0 → ⊥) → Log (binary w m g) a i → antilog (binary w m g) (2 ^ w - 1 - i) ≡ (binary w m g).inv a
  inverse_by_logs a i ha n (inl e) = absurd (n e.0)
  inverse_by_logs a i ha n (inr e) =
      let hi : i + 1 < 2 ^ w = e.0 in
      let k = 2 ^ w - 1 - i in
      let at : antilog (binary w m g) k ≡ raise (product w m) g k = antilog_in k (omega arith) in
      let code : raise (product w m) g k < 2 ^ w = by.raise_below w m logs.tested g k in
      at ∙ inverse_only (binary w m g) (binary_laws logs) a (raise (product w m) g k) ha code n
      (in_2 (2 ^ w) a (raise (product w m) g k) _ ha code
      ∙ ap (λ x. product w m x (raise (product w m) g k)) (sym e.1 ∙ power_raise logs i) ∙ sym (by.raise_add w m logs.tested g i k)
      ∙ ap (raise (product w m) g) (omega arith) ∙ cycle_at logs)
