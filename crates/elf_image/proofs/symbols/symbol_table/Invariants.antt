use Rattle.std.proofs.Common.{◌≡◌, ℕ, ◌<◌, false, eqb}
use Rattle.elf_image.specs.Headers.{section_header}
use Rattle.elf_image.proofs.symbols.symbol_table.Given as goal

abbrev pub invariant-loop-i : goal.invariant-loop-i
invariant-loop-i l = (k : ℕ) → k < l.i → eqb (section_header l.file k).sh_type 2 ≡ false
