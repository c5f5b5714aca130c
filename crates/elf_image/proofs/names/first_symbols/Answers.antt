use Rattle.std.proofs.Common.{◌≡◌, true, false, sym, ◌∙◌, rules}
use Rattle.elf_image.specs.Symbols.{is_readable}
use Rattle.elf_image.proofs.Entries.{no_table, not_readable, read_table}
use Rattle.elf_image.proofs.FirstSymbols.{first_none}
use Rattle.elf_image.proofs.names.first_symbols.Goals as goal

pub returns-in_default : goal.returns-in_default
returns-in_default c = rw (no_table c.args.file.now (sym c.symbol_table.ensures ∙ c.in_default.is), c.none.ensures) first_none

pub returns-then-not-is_readable : goal.returns-then-not-is_readable
returns-then-not-is_readable c =
    let bad : is_readable c.args.file.now c.in-Some.table ≡ false = sym (c.if-not-is_readable.ensures) in
    rw (not_readable c.args.file.now c.in-Some.table (sym c.symbol_table.ensures ∙ c.in-Some.is) bad, c.none-then-not-is_readable.ensures) first_none

pub returns : goal.returns
returns c =
    let good : is_readable c.args.file.now c.in-Some.table ≡ true = search rules in
    rw (read_table c.args.file.now c.in-Some.table (sym c.symbol_table.ensures ∙ c.in-Some.is) good, c.new.ensures, ← c.deref.ensures.value) c.in_ok-places.ensures.first
