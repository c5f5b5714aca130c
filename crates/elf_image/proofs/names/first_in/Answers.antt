use Rattle.std.proofs.Common.{◌≡◌, map}
use Rattle.std.specs.List.{All}
use Rattle.std.proofs.lemmas.List.Sorted.{All-permutation}
use Rattle.std.proofs.lemmas.Result.{IfOk-weaker}
use Rattle.elf_image.specs.Private.FirstSymbols.{AreFirst, IsEntry, symbols_of_entries}
use Rattle.elf_image.specs.Private.Places.{placed}
use Rattle.elf_image.specs.Symbols.{symbols_in}
use Rattle.elf_image.proofs.Entries.{all_entries, all_symbols, first_reordered}
use Rattle.elf_image.proofs.names.first_in.Goals as goal

pub first_of_entries-requires-clause-entries : goal.first_of_entries-requires-clause-entries
first_of_entries-requires-clause-entries c =
    let of_table = IsEntry c.args.file.now c.args.table.now in
    let before : All of_table c.in_ok-ordered.ordered.items = rw c.in_ok-ordered.ensures (all_entries c.args.file.now c.args.table.now) in
    let after : All of_table c.deref.result.now = rw c.deref.ensures.value (All-permutation of_table _ _ c.in_ok-order_by_value.ensures.moved before) in
    after

pub returns-clause-first : goal.returns-clause-first
returns-clause-first c =
    let file = c.args.file.now in
    let table = c.args.table.now in
    let strings = c.args.strings.now in
    let es = c.in_ok-ordered.ordered.items in
    let are : All (IsEntry file table) es = rw c.in_ok-ordered.ensures (all_entries file table) in
    let whole : symbols_of_entries file strings table es ≡ symbols_in file table = rw (c.in_ok-ordered.ensures, c.requires.strings) (all_symbols file table) in
    let of = placed strings in
    IfOk-weaker c.first_of_entries.result _ _ (λ first found.
    let ordered : AreFirst (symbols_of_entries file strings table c.order_by_value.new.entries.items) (map of first.items) = rw (← c.deref.ensures.value) found in
    rw (← whole) (first_reordered file strings table es c.order_by_value.new.entries.items (map of first.items) are c.in_ok-order_by_value.ensures.moved c.in_ok-order_by_value.ensures.same ordered))
    c.first_of_entries.ensures.first
