use Rattle.std.proofs.Common.{◌<◌, arith}
use Rattle.guest_memory.specs.Guest.{memory_of}
use Rattle.guest_machine.proofs.ImagePages.{room_left}
use Rattle.guest_machine.proofs.image_pages.map_pages.Goals as goal

pub unreachable-requires : goal.unreachable-requires
unreachable-requires c =
    let low : c.loop-page.page < 0x40000 = omega (arith, c.loop-page-test.true, c.requires.rights.whole) in
    let full = (rw c.in-Err-NoRoom.field-0-is at c.in-Err-NoRoom.ensures).0 in
    room_left c.args.segments.now c.args.table.now (memory_of c.loop-page.memory) c.loop-page.page c.in-Some.rights c.requires.rights c.loop-page.invariant low c.in-Some.is c.requires.few full
