use Rattle.std.proofs.Common.{rules, sym, subst, ◌∙◌}
use Rattle.guest_kernel.specs.declared.answer.Answer.TheVariants.{Back}
use Rattle.guest_calls.specs.Outcome.{asked, Does}
use Rattle.guest_calls.specs.Results.{SyscallResult}
use Rattle.guest_calls.proofs.Ends.{told_where_cleared}
use Rattle.guest_calls.proofs.threads.tell_end.Goals as goal

pub returns-clause-told : goal.returns-clause-told
returns-clause-told c =
    let made = asked c.args.caller.now c.args.state.now c.args.memory.now c.args.held.now in
    let at = c.clear_tid_of-at.ensures in
    let is = told_where_cleared made c.clear_tid_of-at.result at (sym c.has_others.ensures ∙ c.if-not-has_others.false) c.if-at-eq0.false (sym c.can_write.ensures ∙ c.if-not-can_write.false) in
    subst (λ (r : SyscallResult). Does r (Back 0) c.wake.new.self c.fill_word.new.memory c.fill_word.new.held c.args.events.now c.fill_word.new.events) (sym is) (search rules)
