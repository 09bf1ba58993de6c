-- What `inside` gives for codes and for other numbers, by the one test that it makes. Assumes nothing.
use Rattle.std.proofs.Common.{◌≡◌, ℕ, ◌<◌, ◌≤◌, ltb, ◌⊎◌, sym, refl, ap, ap₂, ◌∙◌, ⊎_elim, le-ltb, lt-ltb}
use Rattle.std.proofs.lemmas.Bool.{cond-true, cond-false, cond_both, ltb-true}
use Rattle.laws.specs.Inside.{inside}

module _ (q : ℕ) where
  pub in_1 : (a x : ℕ) → a < q → inside q a x ≡ x
  in_1 a x h = cond-true (ltb a q) x 0 (lt-ltb a q h)

  pub out_1 : (a x : ℕ) → q ≤ a → inside q a x ≡ 0
  out_1 a x h = cond-false (ltb a q) x 0 (le-ltb a q h)

  -- the result is a code, if x is one where the operands are
  pub below_1 : 0 < q → (a x : ℕ) → (a < q → x < q) → inside q a x < q
  below_1 pos a x h = cond_both (ltb a q) x 0 (λ v. v < q) (λ t. h (ltb-true a q t)) (λ _. pos)

  pub in_2 : (a b x : ℕ) → a < q → b < q → inside q a (inside q b x) ≡ x
  in_2 a b x h k = in_1 a (inside q b x) h ∙ in_1 b x k

  pub out_2 : (a b x : ℕ) → (q ≤ a) ⊎ (q ≤ b) → inside q a (inside q b x) ≡ 0
  out_2 a b x = ⊎_elim (λ h. out_1 a (inside q b x) h) (λ k. ap (inside q a) (out_1 b x k) ∙ cond_both (ltb a q) 0 0 (λ v. v ≡ 0) (λ _. refl) (λ _. refl))

  pub below_2 : 0 < q → (a b x : ℕ) → (a < q → b < q → x < q) → inside q a (inside q b x) < q
  below_2 pos a b x h = below_1 pos a (inside q b x) (λ l. below_1 pos b x (h l))

-- an operation on codes, made total, keeps its laws
module _ (q : ℕ) (f : ℕ → ℕ → ℕ) (closed : (a b : ℕ) → a < q → b < q → f a b < q) where
  abbrev total : ℕ → ℕ → ℕ
  total a b = inside q a (inside q b (f a b))

  pub comm_2 : ((a b : ℕ) → a < q → b < q → f a b ≡ f b a) → (a b : ℕ) → a < q → b < q → total a b ≡ total b a
  comm_2 law a b ha hb = in_2 q a b (f a b) ha hb ∙ law a b ha hb ∙ sym (in_2 q b a (f b a) hb ha)

  pub assoc_2 : ((a b c : ℕ) → a < q → b < q → c < q → f (f a b) c ≡ f a (f b c)) → (a b c : ℕ) → a < q → b < q → c < q → total (total a b) c ≡ total a (total b c)
  assoc_2 law a b c ha hb hc =
      ap (λ x. total x c) (in_2 q a b (f a b) ha hb) ∙ in_2 q (f a b) c (f (f a b) c) (closed a b ha hb) hc ∙ law a b c ha hb hc
      ∙ sym (ap (total a) (in_2 q b c (f b c) hb hc) ∙ in_2 q a (f b c) (f a (f b c)) ha (closed b c hb hc))

-- and so do two of them that go together
pub distributed_2 : (q : ℕ) (f g : ℕ → ℕ → ℕ) → ((a b : ℕ) → a < q → b < q → f a b < q) → ((a b : ℕ) → a < q → b < q → g a b < q)
    → ((a b c : ℕ) → a < q → b < q → c < q → g a (f b c) ≡ f (g a b) (g a c))
    → (a b c : ℕ) → a < q → b < q → c < q
    → inside q a (inside q (inside q b (inside q c (f b c))) (g a (inside q b (inside q c (f b c)))))
    ≡ inside q (inside q a (inside q b (g a b))) (inside q (inside q a (inside q c (g a c))) (f (inside q a (inside q b (g a b))) (inside q a (inside q c (g a c)))))
distributed_2 q f g f_closed g_closed law a b c ha hb hc =
    ap (λ x. inside q a (inside q x (g a x))) (in_2 q b c (f b c) hb hc) ∙ in_2 q a (f b c) (g a (f b c)) ha (f_closed b c hb hc) ∙ law a b c ha hb hc
    ∙ sym (ap₂ (λ x y. inside q x (inside q y (f x y))) (in_2 q a b (g a b) ha hb) (in_2 q a c (g a c) ha hc)
    ∙ in_2 q (g a b) (g a c) (f (g a b) (g a c)) (g_closed a b ha hb) (g_closed a c ha hc))
