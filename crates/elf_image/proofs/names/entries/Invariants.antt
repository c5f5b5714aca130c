use Rattle.std.proofs.Common.{◌≡◌, map}
use Rattle.std.specs.List.{range_with_len}
use Rattle.elf_image.specs.Private.FirstSymbols.{entry_at}
use Rattle.elf_image.proofs.names.entries.Given as goal

abbrev pub invariant-loop-index : goal.invariant-loop-index
invariant-loop-index l = l.entries.items ≡ map (entry_at l.file l.table) (range_with_len 0 l.index)
