use Rattle.std.proofs.Common.{ℕ, ◌%◌, ◌^◌, Bool, eqb, List, [], ◌∷◌, get_or, sym, ◌∙◌, eqb→eq}
use Rattle.laws.proofs.Tests.{at}
use Rattle.laws.proofs.Within.{in_1}
use Rattle.field.proofs.mod37.Mod37Field.inv.Goals as goal

inverses : List ℕ
inverses = 0 ∷ 1 ∷ 19 ∷ 25 ∷ 28 ∷ 15 ∷ 31 ∷ 16 ∷ 14 ∷ 33 ∷ 26 ∷ 27 ∷ 34 ∷ 20 ∷ 8 ∷ 5 ∷ 7 ∷ 24 ∷ 35 ∷ 2 ∷ 13 ∷ 30 ∷ 32 ∷ 29 ∷ 17 ∷ 3 ∷ 10 ∷ 11 ∷ 4 ∷ 23 ∷ 21 ∷ 6 ∷ 22 ∷ 9 ∷ 12 ∷ 18 ∷ 36 ∷ []

right : ℕ → Bool
right k = eqb (get_or inverses k 0) (k ^ 35 % 37)

pub returns-then-a-lt37 : goal.returns-then-a-lt37
unfolding inverses right
returns-then-a-lt37 c =
    let a = c.args.a in
    let h = c.if-a-lt37.true in
    rw c.from.ensures (eqb→eq (get_or inverses a 0) (a ^ 35 % 37) (at 37 right tt a h) ∙ sym (in_1 37 a _ h))
