use Rattle.std.proofs.Common.{arith}
use Rattle.guest_memory.specs.State.{memory_in}
use Rattle.guest_memory.proofs.Unmapped.{unmapped_free}
use Rattle.guest_memory.proofs.directory.Directory.take_in_table.Goals as goal

pub drop_table-requires-clause-free : goal.drop_table-requires-clause-free
drop_table-requires-clause-free c =
    λ q from high. unmapped_free (memory_in c.args.self.now) (memory_in c.take_all-taken.new.self) c.args.first c.args.count c.take_all-taken.ensures.memory q from
    (omega (arith, high, c.if-count-eq-TABLE_ENTRIES.true))
