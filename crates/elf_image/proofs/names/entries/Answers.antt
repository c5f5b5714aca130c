use Rattle.std.proofs.Common.{arith}
use Rattle.std.proofs.lemmas.List.FromFn.{map-range_with_len_more}
use Rattle.elf_image.specs.Private.FirstSymbols.{entry_at}
use Rattle.elf_image.proofs.names.entries.Goals as goal

pub loop-index-preserved : goal.loop-index-preserved
loop-index-preserved c =
    let more = map-range_with_len_more (entry_at c.args.file.now c.args.table.now) 0 c.loop-index.index c.loop-index.index (omega arith) in
    cc (more, c.in_ok-push.ensures.items, c.loop-index.invariant, c.word_at-value.ensures)
