use Rattle.std.proofs.Common.{◌∙◌, ap}
use Rattle.guest_machine.specs.Private.Setup.{mapped_below}
use Rattle.guest_machine.proofs.ImagePages.{table_whole}
use Rattle.guest_machine.proofs.image_pages.image_memory.Goals as goal

pub write_segments-requires-clause-mapped : goal.write_segments-requires-clause-mapped
write_segments-requires-clause-mapped c =
    c.in_ok-map_pages.ensures ∙ ap (λ table. mapped_below table 0x40000) c.as_slice.ensures.value ∙ table_whole c.args.segments.now c.in_ok-table.table.items c.requires.placed c.in_ok-table.ensures
