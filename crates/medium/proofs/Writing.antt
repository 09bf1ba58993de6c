-- The exits of a writing, each from the tests that led to it. Assumes nothing.
use Rattle.std.proofs.Common.{◌≡◌, ℕ, ◌*◌, ◌<◌, ◌≤◌, true, false, ◌≢◌, List, length, Ok, Err, Result, inl, inr, arith}
use Rattle.std.proofs.lemmas.Bool.{both_ways}
use Rattle.refusal.specs.declared.Refusal.{Refusal}
use Rattle.refusal.specs.declared.Refusal.TheVariants.{NoSuchPlace, WrongLength, BadSymbol, Closed}
use Rattle.refusal.specs.Codes.{Below}
use Rattle.medium.specs.Meaning.{Meaning}
use Rattle.medium.specs.Write.{Written, Writes}

module _ (v w : Meaning) (f : ℕ) (codes : List ℕ) (r : Result (Unit {0}) Refusal) where
  pub no_frame : v.frames ≤ f → r ≡ Err NoSuchPlace → w ≡ v → Writes v f codes r w
  no_frame h e same = inl (h, e, same)

  pub wrong_length : f < v.frames → length codes ≢ v.strips * v.squares → r ≡ Err WrongLength → w ≡ v → Writes v f codes r w
  wrong_length h l e same = inr (λ z. omega arith, inl (l, e, same))

  pub bad_symbol : f < v.frames → length codes ≡ v.strips * v.squares → (Below v.levels codes → ⊥) → r ≡ Err BadSymbol → w ≡ v → Writes v f codes r w
  bad_symbol h l b e same = inr (λ z. omega arith, inr (λ n. n l, inl (b, e, same)))

  pub closed : f < v.frames → length codes ≡ v.strips * v.squares → Below v.levels codes → v.unlocked f ≡ false → r ≡ Err Closed → w ≡ v → Writes v f codes r w
  closed h l b u e same = inr (λ z. omega arith, inr (λ n. n l, inr (λ n. n b, inl (u, e, same))))

  pub done : f < v.frames → length codes ≡ v.strips * v.squares → Below v.levels codes → v.unlocked f ≡ true → r ≡ Ok tt → Written v f codes w → Writes v f codes r w
  done h l b u e put = inr (λ z. omega arith, inr (λ n. n l, inr (λ n. n b, inr (λ z. both_ways (v.unlocked f) z u, (e, put)))))
