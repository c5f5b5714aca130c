use Rattle.std.proofs.Common.{◌≡◌, ◌<◌, ◌≤◌, ◌++◌, [], ◌+◌, ◌*◌, length, get_or, map, take, arith}
use Rattle.std.specs.List.{cons_option}
use Rattle.std.specs.Option.{IfSome, option_map}
use Rattle.std.proofs.lemmas.List.Elements.{All-nil}
use Rattle.elf_image.specs.Private.Places.{IsNamed, placed}
use Rattle.elf_image.proofs.Placed.{below_placed}
use Rattle.std.specs.List.{All}
use Rattle.elf_image.specs.Private.FirstSymbols.{AreFirst, symbols_of_entries}
use Rattle.elf_image.specs.Symbols.{symbol_at}
use Rattle.elf_image.proofs.Entries.{no_entry, none_later, one_more}
use Rattle.elf_image.proofs.FirstSymbols.{first_none}
use Rattle.elf_image.proofs.names.first_of_entries.Goals as goal

pub loop-entry-init : goal.loop-entry-init
loop-entry-init c = rw c.new-first.ensures.items (first_none, All-nil (IsNamed c.args.strings.now))

pub loop-entry-preserved : goal.loop-entry-preserved
loop-entry-preserved c =
    let file = c.args.file.now in
    let strings = c.args.strings.now in
    let table = c.args.table.now in
    let es = c.args.ordered.now in
    let i = c.loop-entry.entry-index in
    let inside : i < length es = omega arith in
    let seen = symbols_of_entries file strings table (take i es) in
    let symbol : option_map (placed strings) c.in_ok-symbol.symbol ≡ symbol_at file strings (table.sh_offset + 16 * (get_or es i no_entry).index) = c.in_ok-symbol.ensures.symbol in
    let later : IfSome c.in_ok-symbol.symbol (λ s. All (λ t. t.value ≤ s.value) seen) =
    below_placed strings c.in_ok-symbol.symbol seen (rw symbol (none_later file strings table es i inside c.requires.entries c.requires.rising)) in
    let known : AreFirst (seen ++ cons_option (option_map (placed strings) c.in_ok-symbol.symbol) []) (map (placed strings) c.merge_some.new.first.items) =
    c.in_ok-merge_some.ensures.first seen c.loop-entry.invariant.0 later in
    (rw (one_more file strings table es i inside, ← symbol) known, c.in_ok-merge_some.ensures.named)
