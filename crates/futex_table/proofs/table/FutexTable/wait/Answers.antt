use Rattle.std.proofs.Common.{◌≡◌, ◌<◌, ◌+◌, ap, sym, ◌∙◌, subst, length, arith, false}
use Rattle.std.proofs.lemmas.List.{length-append}
use Rattle.guest_words.specs.declared.limits.TheConstants.{THREADS}
use Rattle.futex_table.specs.Once.{IsOnce, waits}
use Rattle.futex_table.proofs.Partitions.{IsOnce-push}
use Rattle.futex_table.proofs.table.FutexTable.wait.Goals as goal

pub invariant_of-self : goal.invariant_of-self
invariant_of-self c =
    let old = c.self.invariant in
    let pushed = rw c.unwrap.ensures at c.push.ensures.items in
    let new = subst (λ xs. waits xs c.args.tid ≡ false) (sym c.self.view_is) c.requires.once in
    let short : length c.self.inside.waiting.items < THREADS = subst (λ xs. length xs < THREADS) (sym c.self.view_is) c.requires.room in
    let long : length c.push.new.self.items ≡ length c.self.inside.waiting.items + 1 = ap length pushed ∙ length-append c.self.inside.waiting.items _ in
    record {
      once = subst IsOnce (sym pushed) (IsOnce-push c.self.inside.waiting.items _ old.once new);
      few = omega arith;
      none_spare = old.none_spare;
      none_taken = old.none_taken;
      room = omega (arith, old.room, c.push.ensures.capacity);
      room_spare = old.room_spare;
      room_taken = old.room_taken;
    }
