use Rattle.std.proofs.Common.{◌≡◌, ap, sym, ◌∙◌, subst, filter, arith, not, nat_eq, rules}
use Rattle.std.proofs.lemmas.Fn.{filter_same}
use Rattle.virtual_clock.specs.Once.{IsOnce}
use Rattle.virtual_clock.specs.Steps.{after_forget}
use Rattle.virtual_clock.proofs.Threads.{IsOnce-filter}
use Rattle.virtual_clock.proofs.deadlines.Deadlines.forget.Goals as goal

pub invariant_of-self : goal.invariant_of-self
invariant_of-self c =
    let old = c.self.invariant in
    let kept : c.retain.new.self.items ≡ filter (λ d. not (nat_eq d.tid c.args.tid)) c.self.inside.list.items = filter_same _ _ _ (λ x b f' k. search rules) _ _ c.retain.ensures.filtered in
    record {
      once = subst IsOnce (sym kept) (IsOnce-filter (λ d. not (nat_eq d.tid c.args.tid)) c.self.inside.list.items old.once);
      few = omega (arith, old.few, c.retain.ensures.bound);
      room = omega (arith, old.room, c.retain.ensures.capacity);
    }

pub returns : goal.returns
returns c =
    let kept : c.retain.new.self.items ≡ filter (λ d. not (nat_eq d.tid c.args.tid)) c.self.inside.list.items = filter_same _ _ _ (λ x b f' k. search rules) _ _ c.retain.ensures.filtered in
    record { after = kept ∙ ap (λ deadlines. after_forget deadlines c.args.tid) c.self.view_is }
