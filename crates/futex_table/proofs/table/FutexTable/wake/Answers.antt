use Rattle.std.proofs.Common.{sym, subst, arith}
use Rattle.futex_table.specs.Once.{IsOnce}
use Rattle.futex_table.proofs.Partitions.{IsOnce-without}
use Rattle.futex_table.proofs.table.FutexTable.wake.Goals as goal

pub invariant_of-self : goal.invariant_of-self
invariant_of-self c =
    let old = c.self.invariant in
    let out = c.take_out.ensures in
    record {
      once = subst IsOnce (sym out.waiting) (IsOnce-without c.self.inside.waiting.items _ old.once);
      few = omega (arith, out.all, old.few, c.self.inside.waiting.ok.0, c.take_out.new.waiting.ok.0);
      none_spare = out.none_spare;
      none_taken = c.clear.ensures.items;
      room = out.room;
      room_spare = out.room_spare;
      room_taken = omega (arith, c.clear.ensures.capacity, out.room_taken);
    }
