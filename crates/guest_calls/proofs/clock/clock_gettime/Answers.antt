use Rattle.std.proofs.Common.{ap, sym, subst, ◌∙◌}
use Rattle.guest_kernel.specs.declared.answer.Answer.TheVariants.{Back}
use Rattle.guest_calls.specs.Clock.{time_bytes}
use Rattle.guest_calls.specs.Outcome.{asked, Does}
use Rattle.guest_calls.specs.Results.{SyscallResult}
use Rattle.guest_calls.proofs.Times.{filled_does, gettime_passed}
use Rattle.guest_calls.proofs.clock.clock_gettime.Goals as goal

pub returns : goal.returns
returns c =
    record {
      does =
          let made = asked c.args.caller.now c.args.state.now c.args.memory.now c.args.held.now in
          let is = gettime_passed made c.argument.result c.argument-at.result c.argument.ensures c.argument-at.ensures (sym c.is_clock.ensures ∙ c.if-not-is_clock.false) (sym c.can_write.ensures ∙ c.if-not-can_write.false) in
          let bytes = c.time_bytes.ensures ∙ ap time_bytes c.time.ensures in
          subst (λ (r : SyscallResult). Does r (Back 0) c.args.state.now c.fill.new.memory c.fill.new.held c.args.events.now c.fill.new.events) (sym is)
          (filled_does c.args.caller.now c.args.state.now c.args.memory.now c.fill.new.memory c.args.held.now c.fill.new.held c.args.events.now c.fill.new.events c.argument-at.result c.time_bytes.result _ bytes c.fill.ensures.memory c.fill.ensures.held c.fill.ensures.events);
    }
