-- What a medium in a memory shows after a writing. Assumes nothing.
use Rattle.std.proofs.Common.{◌≡◌, ℕ, ◌+◌, ◌*◌, ◌<◌, ◌≤◌, true, false, cond, eqb, ◌≢◌, List, length, get_or, ap, ◌∙◌, arith}
use Rattle.std.proofs.lemmas.Bool.{lt-ltb, eq-eqb}
use Rattle.refusal.specs.Codes.{Below}
use Rattle.medium.specs.Counts.{Shape}
use Rattle.medium.specs.Limits.{Suited}
use Rattle.medium.specs.Meaning.{doubtful, clear}
use Rattle.medium.specs.Places.{size_of, strip_at}
use Rattle.medium.specs.Within.{bounded}
use Rattle.medium.specs.Write.{Written}
use Rattle.medium.proofs.Places.{some_each, row_le}
use Rattle.medium.proofs.Filling.{beside_apart}
use Rattle.medium.proofs.Inside.{within_written}
use Rattle.memory.specs.Plan.{Plan, Alike, Laws}
use Rattle.memory.specs.Shows.{has_size, reads, shows, Stored}
use Rattle.memory.proofs.Tested.{every_same}

module _ (p : Plan) (H : List ℕ → ℕ → ℕ → List ℕ → ℕ → Type 0) (laws : Laws p H) (c : Shape) where
  -- a frame that took codes in shows them, and the other frames what they showed
  pub shows_written : Suited c.frames c.strips c.squares → (xs ys codes : List ℕ) (f : ℕ) → f < c.frames → length xs ≡ size_of c.frames c.strips (p.width c.squares) → length codes ≡ c.strips * c.squares → Below p.levels codes
      → Stored p H c f codes xs ys → Written (shows p c xs) f codes (shows p c ys)
  shows_written fit xs ys codes f there long many below put =
      let fs = c.frames in
      let n = c.strips in
      let m = c.squares in
      let w = p.width m in
      let long' = put.beside.long in
      let some : 1 ≤ m = (some_each n m fit.2).1 in
      let size_after : has_size p c ys ≡ true = eq-eqb (length ys) (size_of fs n w) (long' ∙ long) in
      let small : (s k : ℕ) → s < n → k < m → get_or codes (s * m + k) 0 < p.levels = λ s k hs hk. (let r = row_le s n m hs in below (s * m + k) (omega arith)) in
      let same : (g s : ℕ) → g ≢ f → s < n → Alike w ys (strip_at n w g s) xs (strip_at n w g s) = λ g s ne hs. record { each = λ i h. beside_apart n w f xs ys put.beside g s (strip_at n w g s + i) ne hs (omega arith) (omega arith) } in
      within_written fs n m p.levels (reads p c xs) (reads p c ys) f codes there
      (λ s hs. ap (λ b. cond b (p.gone ys (strip_at n w f s) m) true) size_after ∙ laws.held_there m ys (strip_at n w f s) codes (s * m) some (λ k hk. small s k hs hk) (put.strips s hs))
      (λ s k hs hk. let code = get_or codes (s * m + k) 0 in ap (bounded p.levels) (laws.held_shown m ys (strip_at n w f s) codes (s * m) k hk (small s k hs hk) (put.strips s hs)) ∙ ap (λ b. cond b (clear code) doubtful) (lt-ltb code p.levels (small s k hs hk)))
      (λ g ne hg. record {
        unlocked = λ i. cond (eqb (long' i) (size_of fs n w)) (every_same n (λ s. p.writable ys (strip_at n w g s) m) (λ s. p.writable xs (strip_at n w g s) m) (λ s hs. laws.writable_alone m ys (strip_at n w g s) xs (strip_at n w g s) (same g s ne hs)) i) false;
        gone = λ s hs. λ i. cond (eqb (long' i) (size_of fs n w)) (laws.gone_alone m ys (strip_at n w g s) xs (strip_at n w g s) (same g s ne hs) i) true;
        square = λ s k hs hk. laws.square_alone m ys (strip_at n w g s) xs (strip_at n w g s) k (same g s ne hs) hk;
      })
