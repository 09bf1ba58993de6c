use Rattle.std.proofs.Common.{◌≡◌, ℕ, ◌<◌, get_or}
use Rattle.card.specs.Alphabet.{letter}
use Rattle.card.proofs.layout.CardLayoutLayout.store.Given as goal

abbrev pub invariant-loop-k : goal.invariant-loop-k
invariant-loop-k l = (j : ℕ) → j < l.k → get_or l.strip j 0 ≡ letter (get_or l.codes j 0)
