use Rattle.std.proofs.Common.{ap, refl, rules, sym, ◌∙◌}
use Rattle.std.proofs.lemmas.Result.{IfOk-weaker}
use Rattle.guest_kernel.specs.declared.answer.Answer.TheVariants.{Back}
use Rattle.guest_calls.specs.Outcome.{asked}
use Rattle.guest_calls.specs.Table.{table}
use Rattle.guest_kernel.proofs.Room.{adds_none}
use Rattle.guest_calls.proofs.Refusals.{does_nothing}
use Rattle.guest_calls.proofs.Rows.{AreOther, called, unknown}
use Rattle.guest_calls.proofs.table.syscall.Goals as goal

pub returns-in-56-clause-does : goal.returns-in-56-clause-does
unfolding table
returns-in-56-clause-does c =
    let made = asked c.args.caller.now c.args.state.now c.args.memory.now c.args.held.now in
    rw (called made 56 (sym c.number.ensures ∙ c.in-56.is)) (c.openat.ensures.does c.args.held.now)

pub returns-in-57-clause-does : goal.returns-in-57-clause-does
unfolding table
returns-in-57-clause-does c =
    let made = asked c.args.caller.now c.args.state.now c.args.memory.now c.args.held.now in
    rw (called made 57 (sym c.number.ensures ∙ c.in-57.is)) (c.close.ensures c.args.memory.now c.args.held.now c.args.events.now)

pub returns-in-62-clause-does : goal.returns-in-62-clause-does
unfolding table
returns-in-62-clause-does c =
    let made = asked c.args.caller.now c.args.state.now c.args.memory.now c.args.held.now in
    rw (called made 62 (sym c.number.ensures ∙ c.in-62.is)) (c.llseek.ensures.does)

pub returns-in-63-clause-does : goal.returns-in-63-clause-does
unfolding table
returns-in-63-clause-does c =
    let made = asked c.args.caller.now c.args.state.now c.args.memory.now c.args.held.now in
    rw (called made 63 (sym c.number.ensures ∙ c.in-63.is)) (c.read.ensures.does)

pub returns-in-65-clause-does : goal.returns-in-65-clause-does
unfolding table
returns-in-65-clause-does c =
    let made = asked c.args.caller.now c.args.state.now c.args.memory.now c.args.held.now in
    rw (called made 65 (sym c.number.ensures ∙ c.in-65.is)) (c.readv.ensures.does)

pub returns-in-93-clause-does : goal.returns-in-93-clause-does
unfolding table
returns-in-93-clause-does c =
    let made = asked c.args.caller.now c.args.state.now c.args.memory.now c.args.held.now in
    rw (called made 93 (sym c.number.ensures ∙ c.in-93.is)) (c.exit.ensures.does)

pub returns-in-94-clause-does : goal.returns-in-94-clause-does
unfolding table
returns-in-94-clause-does c =
    let made = asked c.args.caller.now c.args.state.now c.args.memory.now c.args.held.now in
    rw (called made 94 (sym c.number.ensures ∙ c.in-94.is)) (c.exit_group.ensures c.args.memory.now c.args.events.now)

pub returns-in-96-clause-does : goal.returns-in-96-clause-does
unfolding table
returns-in-96-clause-does c =
    let made = asked c.args.caller.now c.args.state.now c.args.memory.now c.args.held.now in
    rw (called made 96 (sym c.number.ensures ∙ c.in-96.is)) (c.set_tid_address.ensures c.args.memory.now c.args.held.now c.args.events.now)

pub returns-in-135-clause-does : goal.returns-in-135-clause-does
unfolding table
returns-in-135-clause-does c =
    let made = asked c.args.caller.now c.args.state.now c.args.memory.now c.args.held.now in
    rw (called made 135 (sym c.number.ensures ∙ c.in-135.is)) (c.rt_sigprocmask.ensures.does c.args.state.now)

pub returns-in-214-clause-does : goal.returns-in-214-clause-does
unfolding table
returns-in-214-clause-does c =
    let made = asked c.args.caller.now c.args.state.now c.args.memory.now c.args.held.now in
    rw (called made 214 (sym c.number.ensures ∙ c.in-214.is)) (c.brk.ensures.does c.args.held.now c.args.events.now)

pub returns-in-215-clause-does : goal.returns-in-215-clause-does
unfolding table
returns-in-215-clause-does c =
    let made = asked c.args.caller.now c.args.state.now c.args.memory.now c.args.held.now in
    rw (called made 215 (sym c.number.ensures ∙ c.in-215.is)) (c.munmap.ensures c.args.state.now c.args.held.now c.args.events.now)

pub returns-in-220-clause-does : goal.returns-in-220-clause-does
unfolding table
returns-in-220-clause-does c =
    let made = asked c.args.caller.now c.args.state.now c.args.memory.now c.args.held.now in
    rw (called made 220 (sym c.number.ensures ∙ c.in-220.is)) (c.clone_thread.ensures.does)

pub returns-in-226-clause-does : goal.returns-in-226-clause-does
unfolding table
returns-in-226-clause-does c =
    let made = asked c.args.caller.now c.args.state.now c.args.memory.now c.args.held.now in
    rw (called made 226 (sym c.number.ensures ∙ c.in-226.is)) (c.mprotect.ensures c.args.state.now c.args.held.now c.args.events.now)

pub returns-in-403-clause-does : goal.returns-in-403-clause-does
unfolding table
returns-in-403-clause-does c =
    let made = asked c.args.caller.now c.args.state.now c.args.memory.now c.args.held.now in
    rw (called made 403 (sym c.number.ensures ∙ c.in-403.is)) (c.clock_gettime.ensures.does)

pub returns-in-407-clause-does : goal.returns-in-407-clause-does
unfolding table
returns-in-407-clause-does c =
    let made = asked c.args.caller.now c.args.state.now c.args.memory.now c.args.held.now in
    rw (called made 407 (sym c.number.ensures ∙ c.in-407.is)) (c.clock_nanosleep.ensures.does c.args.held.now)

pub returns-in-422-clause-does : goal.returns-in-422-clause-does
unfolding table
returns-in-422-clause-does c =
    let made = asked c.args.caller.now c.args.state.now c.args.memory.now c.args.held.now in
    rw (called made 422 (sym c.number.ensures ∙ c.in-422.is)) (c.futex.ensures.does c.args.held.now)

pub returns-in-29-clause-does : goal.returns-in-29-clause-does
unfolding table
returns-in-29-clause-does c =
    let made = asked c.args.caller.now c.args.state.now c.args.memory.now c.args.held.now in
    rw (called made 29 (sym c.number.ensures ∙ c.in-29.is), c.always.ensures) (does_nothing c.args.caller.now c.args.state.now c.args.memory.now c.args.held.now c.args.events.now _)

pub returns-in-99-clause-does : goal.returns-in-99-clause-does
unfolding table
returns-in-99-clause-does c =
    let made = asked c.args.caller.now c.args.state.now c.args.memory.now c.args.held.now in
    rw (called made 99 (sym c.number.ensures ∙ c.in-99.is), c.always-in-99.ensures) (does_nothing c.args.caller.now c.args.state.now c.args.memory.now c.args.held.now c.args.events.now _)

pub returns-in-134-clause-does : goal.returns-in-134-clause-does
unfolding table
returns-in-134-clause-does c =
    let made = asked c.args.caller.now c.args.state.now c.args.memory.now c.args.held.now in
    rw (called made 134 (sym c.number.ensures ∙ c.in-134.is), c.always-in-134.ensures) (does_nothing c.args.caller.now c.args.state.now c.args.memory.now c.args.held.now c.args.events.now _)

pub returns-in-172-clause-does : goal.returns-in-172-clause-does
unfolding table
returns-in-172-clause-does c =
    let made = asked c.args.caller.now c.args.state.now c.args.memory.now c.args.held.now in
    rw (called made 172 (sym c.number.ensures ∙ c.in-172.is), c.always-in-172.ensures) (does_nothing c.args.caller.now c.args.state.now c.args.memory.now c.args.held.now c.args.events.now _)

pub returns-in-178-clause-does : goal.returns-in-178-clause-does
unfolding table
returns-in-178-clause-does c =
    let made = asked c.args.caller.now c.args.state.now c.args.memory.now c.args.held.now in
    rw (called made 178 (sym c.number.ensures ∙ c.in-178.is), c.always-in-178.ensures) (record { answered = ap Back c.number-in-178.ensures.same; state_is = refl; memory_is = refl; held_is = refl; events = adds_none c.args.events.now })

pub returns-in-233-clause-does : goal.returns-in-233-clause-does
unfolding table
returns-in-233-clause-does c =
    let made = asked c.args.caller.now c.args.state.now c.args.memory.now c.args.held.now in
    rw (called made 233 (sym c.number.ensures ∙ c.in-233.is), c.always-in-233.ensures) (does_nothing c.args.caller.now c.args.state.now c.args.memory.now c.args.held.now c.args.events.now _)

pub returns-in-222-clause-does : goal.returns-in-222-clause-does
unfolding table
returns-in-222-clause-does c =
    let made = asked c.args.caller.now c.args.state.now c.args.memory.now c.args.held.now in
    rw (called made 222 (sym c.number.ensures ∙ c.in-222.is)) (IfOk-weaker c.mmap2.result _ _ (λ answer h. h c.args.state.now c.args.held.now c.args.events.now) c.mmap2.ensures.does)

pub returns-in-124-clause-does : goal.returns-in-124-clause-does
unfolding table
returns-in-124-clause-does c =
    let made = asked c.args.caller.now c.args.state.now c.args.memory.now c.args.held.now in
    rw (called made 124 (sym c.number.ensures ∙ c.in-124.is)) (record { answered = refl; state_is = refl; memory_is = refl; held_is = refl; events = adds_none c.args.events.now })

-- the number is that of no row
pub returns-in_default-clause-does : goal.returns-in_default-clause-does
unfolding table
returns-in_default-clause-does c =
    let made = asked c.args.caller.now c.args.state.now c.args.memory.now c.args.held.now in
    let others : AreOther c.number.result table = search rules in
    rw (unknown made c.number.result (sym c.number.ensures) others, c.always-in_default.ensures) (does_nothing c.args.caller.now c.args.state.now c.args.memory.now c.args.held.now c.args.events.now _)
