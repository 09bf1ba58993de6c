-- Text in a buffer.
--   Prints    a call has made a text at the front of a buffer, left its other bytes, and answers the text's length
-- Assumes nothing.
use Rattle.std.specs.Prelude.{◌≡◌, ℕ, List, ◌++◌, length, drop, Ok, Result}
use Rattle.refusal.specs.declared.Refusal.{Refusal}

pub record Prints (text before after : List ℕ) (r : Result ℕ Refusal) : Type 0 where
  pub size : r ≡ Ok (length text)
  pub front : after ≡ text ++ drop (length text) before
