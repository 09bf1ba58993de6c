-- What is summed up. Assumes nothing.
use Rattle.std.proofs.Common.{◌≡◌, ℕ, ◌*◌, List, length, sym, ◌∙◌, subst, arith}
use Rattle.std.proofs.lemmas.List.{ext_get_or}
use Rattle.laws.specs.Ops.{Ops}
use Rattle.algebra.specs.Showings.{Showing}
use Rattle.frame.specs.Tables.{Sums}
use Rattle.correction.specs.Tries.{Readout}
use Rattle.attempts.specs.Attempts.{Summed}

-- only one array is what is read
pub summed : (F : Ops) (m n c : ℕ) (w : Showing) (base table : List ℕ) → Readout m n w base → length table ≡ m * c → Sums F m n c base table → Summed F m n c w table
summed F m n c w base table read size sums = record {
  size = size;
  sums = λ ys read'. subst (λ (zs : List ℕ). Sums F m n c zs table) (ext_get_or 0 base ys (read.size ∙ sym read'.size) (λ p l. read.is p (omega (arith, read.size)) ∙ sym (read'.is p (omega (arith, read.size))))) sums;
}
