-- What a frame shows after a writing, square by square from the writing's own facts. Assumes nothing.
use Rattle.std.proofs.Common.{◌≡◌, ℕ, ◌*◌, ◌/◌, ◌%◌, ◌<◌, ◌≤◌, cond, ◌≢◌, List, map, length, get_or, sym, ap, ◌∙◌, mod-lt, div-lt_iff_lt-mul, div-add-mod', arith}
use Rattle.std.specs.List.{range_with_len}
use Rattle.std.proofs.lemmas.List.{length-map, get_or-map}
use Rattle.std.proofs.lemmas.List.FromFn.{fill_by_all}
use Rattle.medium.specs.declared.medium.Look.TheVariants.{Gone, Clear}
use Rattle.medium.specs.Meaning.{Meaning, look_on, look_at, showing}
use Rattle.medium.specs.Write.{Written}

-- another frame shows what it did
pub shown_beside : (v w : Meaning) (f g : ℕ) (xs : List ℕ) → Written v f xs w → g ≢ f → showing w g ≡ showing v g
unfolding showing
shown_beside v w f g xs put ne =
    λ i. map (λ p. cond (put.others_gone g ne i (p / put.shape.squares i)) Gone (look_on (put.others_square g ne i (p / put.shape.squares i) (p % put.shape.squares i)))) (range_with_len 0 (put.shape.strips i * put.shape.squares i))

-- the frame shows what was written
pub shown_written : (v w : Meaning) (f : ℕ) (xs : List ℕ) → Written v f xs w → 1 ≤ v.squares → length xs ≡ v.strips * v.squares → showing w f ≡ map Clear xs
unfolding showing
shown_written v w f xs put some long =
    let m = v.squares in
    let each : (k : ℕ) → k < v.strips * m → get_or (map Clear xs) k Gone ≡ look_at w f (k / m) (k % m) =
    λ k h. (let row : k / m < v.strips = (div-lt_iff_lt-mul some).1 h in
    get_or-map Clear xs k 0 Gone (omega arith)
    ∙ sym (ap (λ b. cond b Gone (look_on (w.square f (k / m) (k % m)))) (put.present (k / m) row)
    ∙ ap look_on (put.codes_there (k / m) (k % m) row (mod-lt k some))
    ∙ ap (λ p. Clear (get_or xs p 0)) (div-add-mod' k m))) in
    sym (fill_by_all (λ k. look_at w f (k / m) (k % m)) (map Clear xs) (v.strips * m) Gone (length-map xs Clear ∙ long) each
    ∙ sym (λ i. map (λ p. look_at w f (p / put.shape.squares i) (p % put.shape.squares i)) (range_with_len 0 (put.shape.strips i * put.shape.squares i))))
