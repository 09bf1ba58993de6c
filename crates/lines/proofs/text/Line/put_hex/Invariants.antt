use Rattle.std.proofs.Common.{◌≡◌, ◌+◌, ◌*◌, ◌++◌, length, take}
use Rattle.std.specs.List.{flat_map}
use Rattle.lines.specs.Lines.{hex}
use Rattle.lines.proofs.text.Line.put_hex.Given as goal

abbrev pub invariant-loop-symbol : goal.invariant-loop-symbol
invariant-loop-symbol l =
    (l.self ≡ l.initial.self ++ flat_map hex (take l.symbol-index l.symbols)) × (length l.self ≡ length l.initial.self + 2 * l.symbol-index)
