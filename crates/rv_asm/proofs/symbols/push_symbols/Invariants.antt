use Rattle.std.proofs.Common.{◌≡◌, ◌+◌, ◌++◌, length, drop}
use Rattle.std.specs.List.{flat_map}
use Rattle.rv_asm.specs.Executable.{string_of, string_table, symbol_entries}
use Rattle.rv_asm.proofs.symbols.push_symbols.Given as goal

-- The entries so far and those of the rest are all entries, and the names of the rest stand from `st_name` on.
abbrev pub invariant-loop-symbol : goal.invariant-loop-symbol
invariant-loop-symbol l = record {
  entries : l.file.items ++ symbol_entries l.st_name (drop l.symbol-index l.symbols) ≡ l.initial.file.items ++ symbol_entries 1 l.symbols;
  names : l.st_name + length (flat_map string_of (drop l.symbol-index l.symbols)) ≡ length (string_table l.symbols);
}
