use Rattle.std.proofs.Common.{◌≡◌, ◌∷◌, take}
use Rattle.std.specs.List.{flat_map}
use Rattle.rv_asm.specs.Executable.{string_of}
use Rattle.rv_asm.proofs.symbols.string_table.Given as goal

abbrev pub invariant-loop-symbol : goal.invariant-loop-symbol
invariant-loop-symbol l = l.strings.items ≡ 0 ∷ flat_map string_of (take l.symbol-index l.symbols)
