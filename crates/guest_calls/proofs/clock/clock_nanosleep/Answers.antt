use Rattle.std.proofs.Common.{ℕ, ap, sym, subst, ◌∙◌}
use Rattle.guest_memory.specs.Guest.{memory_of}
use Rattle.rv_exec.specs.Accesses.{can_read}
use Rattle.guest_calls.specs.Clock.{is_clock, sleep_end, time_at, time_size}
use Rattle.guest_kernel.specs.Copies.{Adds, read_event}
use Rattle.guest_calls.proofs.Sleeps.{nanosleep_does}
use Rattle.guest_calls.proofs.clock.clock_nanosleep.Goals as goal

pub returns : goal.returns
returns c = record {
  does = λ held.
      let m = memory_of c.args.memory.now in
      nanosleep_does c.args.caller.now c.args.state.now c.sleep_until.new.state c.args.memory.now held c.args.events.now c.note_read.new.events c.in-Some.time c.sleep_end-end.result c.sleep_until.result
      (ap is_clock (sym c.argument.ensures) ∙ sym c.is_clock.ensures ∙ c.if-not-is_clock.false)
      (ap (λ (at : ℕ). can_read m at time_size) (sym c.argument-at.ensures) ∙ sym c.can_read.ensures ∙ c.if-not-can_read.false)
      (ap (time_at m) (sym c.argument-at.ensures) ∙ sym c.time_at.ensures ∙ c.in-Some.is)
      (c.sleep_end-end.ensures ∙ ap (λ (flags : ℕ). sleep_end flags c.args.state.now.time c.in-Some.time) c.argument-2.ensures)
      c.sleep_until.ensures.answer c.sleep_until.ensures.after
      (subst (λ (at : ℕ). Adds (read_event c.args.caller.now.tid at time_size) c.args.events.now c.note_read.new.events) c.argument-at.ensures c.note_read.ensures.events);
}
