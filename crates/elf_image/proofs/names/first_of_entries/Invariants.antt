use Rattle.std.proofs.Common.{map, take}
use Rattle.std.specs.List.{All}
use Rattle.elf_image.specs.Private.FirstSymbols.{AreFirst, symbols_of_entries}
use Rattle.elf_image.specs.Private.Places.{IsNamed, placed}
use Rattle.elf_image.proofs.names.first_of_entries.Given as goal

abbrev pub invariant-loop-entry : goal.invariant-loop-entry
invariant-loop-entry l =
    AreFirst (symbols_of_entries l.file l.strings l.table (take l.entry-index l.ordered)) (map (placed l.strings) l.first.items) × All (IsNamed l.strings) l.first.items
