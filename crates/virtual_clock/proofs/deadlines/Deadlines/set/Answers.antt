use Rattle.std.proofs.Common.{◌≡◌, ◌<◌, ◌+◌, ap, sym, ◌∙◌, subst, length, arith, false}
use Rattle.std.proofs.lemmas.List.{length-append}
use Rattle.guest_words.specs.declared.limits.TheConstants.{THREADS}
use Rattle.virtual_clock.specs.Once.{IsOnce, has}
use Rattle.virtual_clock.proofs.Threads.{IsOnce-push}
use Rattle.virtual_clock.proofs.deadlines.Deadlines.set.Goals as goal

pub invariant_of-self : goal.invariant_of-self
invariant_of-self c =
    let old = c.self.invariant in
    let pushed = rw c.unwrap.ensures at c.push.ensures.items in
    let new = subst (λ xs. has xs c.args.tid ≡ false) (sym c.self.view_is) c.requires.once in
    let short : length c.self.inside.list.items < THREADS = subst (λ xs. length xs < THREADS) (sym c.self.view_is) c.requires.room in
    let long : length c.push.new.self.items ≡ length c.self.inside.list.items + 1 = ap length pushed ∙ length-append c.self.inside.list.items _ in
    record {
      once = subst IsOnce (sym pushed) (IsOnce-push c.self.inside.list.items _ old.once new);
      few = omega arith;
      room = omega (arith, old.room, c.push.ensures.capacity);
    }
