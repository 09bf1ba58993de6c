-- What is kept of a line is answered as the whole line is: a line that was cut short is no record either way. Assumes nothing.
use Rattle.std.proofs.Common.{◌≡◌, ℕ, ◌-◌, ◌*◌, ◌<◌, ◌≤◌, List, length, Result, ◌∙◌, ap, subst, inl, inr, arith, length-take, mul-le-mul_right}
use Rattle.std.proofs.lemmas.Bool.{cases_lt, cases_eq}
use Rattle.std.proofs.lemmas.List.{take_all}
use Rattle.refusal.specs.declared.Refusal.{Refusal}
use Rattle.geometry.specs.Rule.{Rule}
use Rattle.geometry.specs.declared.Geometry.{Geometry}
use Rattle.cardtext.specs.Text.{FramesLine}
use Rattle.cardtext.specs.Kept.{Enough}

-- no record over 37 codes is longer than 36
short : (q m n c : ℕ) → q ≡ 37 → Rule q m n c → (n - c) * m ≤ 36
short q m n c e r = let fewer : n - c ≤ n = omega arith in let all = mul-le-mul_right m fewer in omega (arith, r.3)

-- a line that does not fit is too long for a record, and so is what is kept of it
cut : (g : Geometry) (room : ℕ) (line kept out : List ℕ) (r : Result ℕ Refusal) (out' : List ℕ)
    → 36 < room → room < length line → length kept ≡ room → FramesLine g kept out r out' → FramesLine g line out r out'
cut g room line kept out r out' wide longer long (inl x) = inl x
cut g room line kept out r out' wide longer long (inr (suits, x)) = elim (cases_eq g.order 37) [
  | inl e ↦ let s = short g.order g.squares g.strips g.checks e g.rule in elim x [
    | inl y ↦ inr (suits, inl (inl (λ z. omega arith), y.1, y.2))
    | inr y ↦ absurd (y.0 (inl (λ z. omega arith)))
  ]
  | inr ne ↦ absurd (suits ne)
]

pub enough : Enough
enough g room line kept out r out' wide k o = elim (cases_lt room (length line)) [
  | inl longer ↦ cut g room line kept out r out' wide longer (ap length k ∙ length-take room line ∙ omega arith) o
  | inr fits ↦ subst (λ l. FramesLine g l out r out') (k ∙ take_all room line fits) o
]
