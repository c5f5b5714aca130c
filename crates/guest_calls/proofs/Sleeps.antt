-- Threads that sleep.
use Rattle.std.proofs.Common.{◌≡◌, ℕ, Bool, true, false, cond, [], ◌∷◌, Option, Some, refl, ap, ap₂, sym, subst, ◌∙◌}
use Rattle.std.specs.Prelude.{not, is_none, nat_le, unwrap_or}
use Rattle.guest_memory.specs.declared.memory.GuestMemory.{GuestMemory}
use Rattle.guest_memory.specs.declared.reservations.Reservations.{Reservations}
use Rattle.guest_memory.specs.Guest.{memory_of}
use Rattle.trace_model.specs.EventList.{EventList}
use Rattle.guest_kernel.specs.declared.answer.Answer.{Answer}
use Rattle.guest_kernel.specs.declared.answer.Answer.TheVariants.{Back, Block}
use Rattle.guest_calls.specs.declared.caller.Caller.{Caller}
use Rattle.guest_kernel.specs.Waits.{with_deadline}
use Rattle.guest_calls.specs.Clock.{clock_nanosleep, is_clock, sleep_end, sleeps, time_at, time_size}
use Rattle.guest_kernel.specs.Errors.{efault, einval}
use Rattle.guest_kernel.specs.Kernel.{KernelState}
use Rattle.guest_kernel.specs.Copies.{Adds, read_event}
use Rattle.guest_calls.specs.Outcome.{Does, asked}
use Rattle.guest_calls.specs.Results.{Syscall, SyscallResult, answered_or, arg, either, first_answer, readable, reads, returns, ◌▷◌}

-- ---- clock_nanosleep
abbrev sleeping : Syscall → ℕ → SyscallResult
sleeping c end = returns c 0 ▷ reads c.tid (arg c 2) time_size ▷ either (nat_le end c.kernel.time) (λ r. r) (sleeps c end)

nanosleep_passed : (c : Syscall) (time : ℕ) → is_clock (arg c 0) ≡ true → readable c (arg c 2) time_size ≡ true → time_at c.memory (arg c 2) ≡ Some time → clock_nanosleep c ≡ sleeping c (sleep_end (arg c 1) c.kernel.time time)
nanosleep_passed c time known reach read =
    let at : Option ℕ = time_at c.memory (arg c 2) in
    ap₂ (λ (a b : Bool). answered_or (first_answer ((not a, einval) ∷ (not b, efault) ∷ (is_none at, einval) ∷ [])) c (λ _. sleeping c (sleep_end (arg c 1) c.kernel.time (unwrap_or at 0)))) known reach
    ∙ ap (λ (o : Option ℕ). answered_or (first_answer ((is_none o, einval) ∷ [])) c (λ _. sleeping c (sleep_end (arg c 1) c.kernel.time (unwrap_or o 0)))) read

pub nanosleep_does : (caller : Caller) (state new : KernelState) (memory : GuestMemory) (held : Reservations) (before after : EventList) (time end : ℕ) (answer : Answer)
    → is_clock (arg (asked caller state memory held) 0) ≡ true
    → readable (asked caller state memory held) (arg (asked caller state memory held) 2) time_size ≡ true
    → time_at (memory_of memory) (arg (asked caller state memory held) 2) ≡ Some time
    → end ≡ sleep_end (arg (asked caller state memory held) 1) state.time time
    → answer ≡ cond (nat_le end state.time) (Back 0) Block
    → new ≡ cond (nat_le end state.time) state (with_deadline caller.tid end 0 state)
    → Adds (read_event caller.tid (arg (asked caller state memory held) 2) time_size) before after
    → Does (clock_nanosleep (asked caller state memory held)) answer new memory held before after
nanosleep_does caller state new memory held before after time end answer known reach read end_is answered becomes events =
    let c = asked caller state memory held in
    let is : clock_nanosleep c ≡ sleeping c end = nanosleep_passed c time known reach read ∙ ap (sleeping c) (sym end_is) in
    subst (λ (r : SyscallResult). Does r answer new memory held before after) (sym is) (by (nat_le end state.time) answered becomes)
  where
    by : (b : Bool) → answer ≡ cond b (Back 0) Block → new ≡ cond b state (with_deadline caller.tid end 0 state) →
        let c = asked caller state memory held in
        Does (returns c 0 ▷ reads c.tid (arg c 2) time_size ▷ either b (λ r. r) (sleeps c end)) answer new memory held before after
    by true answered becomes = record { answered = answered; state_is = becomes; memory_is = refl; held_is = refl; events = events }
    by false answered becomes = record { answered = answered; state_is = becomes; memory_is = refl; held_is = refl; events = events }
