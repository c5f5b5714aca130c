use Rattle.std.proofs.Common.{◌≡◌, ap, sym, ◌∙◌, subst, filter, arith, not, nat_eq, rules}
use Rattle.std.proofs.lemmas.Fn.{filter_same}
use Rattle.futex_table.specs.Once.{IsOnce}
use Rattle.futex_table.specs.Waiting.{after_forget}
use Rattle.futex_table.proofs.Partitions.{IsOnce-filter}
use Rattle.futex_table.proofs.table.FutexTable.forget.Goals as goal

pub invariant_of-self : goal.invariant_of-self
invariant_of-self c =
    let old = c.self.invariant in
    let kept : c.retain.new.self.items ≡ filter (λ w. not (nat_eq w.tid c.args.tid)) c.self.inside.waiting.items = filter_same _ _ _ (λ x b f' k. search rules) _ _ c.retain.ensures.filtered in
    record {
      once = subst IsOnce (sym kept) (IsOnce-filter (λ w. not (nat_eq w.tid c.args.tid)) c.self.inside.waiting.items old.once);
      few = omega (arith, old.few, c.retain.ensures.bound);
      none_spare = old.none_spare;
      none_taken = old.none_taken;
      room = omega (arith, old.room, c.retain.ensures.capacity);
      room_spare = old.room_spare;
      room_taken = old.room_taken;
    }

pub returns : goal.returns
returns c =
    let kept : c.retain.new.self.items ≡ filter (λ w. not (nat_eq w.tid c.args.tid)) c.self.inside.waiting.items = filter_same _ _ _ (λ x b f' k. search rules) _ _ c.retain.ensures.filtered in
    record { after = kept ∙ ap (λ waiting. after_forget waiting c.args.tid) c.self.view_is }
