-- A time that is read from the clock.
use Rattle.std.proofs.Common.{◌≡◌, ℕ, ◌/◌, Bool, true, List, [], ◌∷◌, length, None, refl, ap₂, sym, subst, ◌∙◌}
use Rattle.std.specs.Prelude.{not}
use Rattle.guest_memory.specs.declared.memory.GuestMemory.{GuestMemory}
use Rattle.guest_memory.specs.declared.reservations.Reservations.{Reservations}
use Rattle.guest_memory.specs.Guest.{memory_of}
use Rattle.guest_memory.specs.Memory.{with_bytes}
use Rattle.guest_memory.specs.Reserved.{after_write}
use Rattle.guest_memory.specs.ReservedBy.{reserved_by}
use Rattle.trace_model.specs.EventList.{EventList}
use Rattle.guest_kernel.specs.declared.answer.Answer.TheVariants.{Back}
use Rattle.guest_calls.specs.declared.caller.Caller.{Caller}
use Rattle.guest_kernel.specs.Copies.{Adds, fill_event, words_touched}
use Rattle.guest_calls.specs.Outcome.{Does, asked}
use Rattle.guest_calls.specs.Clock.{clock_gettime, is_clock, time_bytes, time_size}
use Rattle.guest_kernel.specs.Errors.{efault, einval}
use Rattle.guest_kernel.specs.Kernel.{KernelState}
use Rattle.guest_calls.specs.Results.{Syscall, answered_or, arg, fills, first_answer, returns, writable, ◌▷◌}

-- where there is such a clock and room for a time, it is written
pub gettime_passed : (c : Syscall) (clock at : ℕ) → clock ≡ arg c 0 → at ≡ arg c 1 → is_clock clock ≡ true → writable c at time_size ≡ true → clock_gettime c ≡ (returns c 0 ▷ fills at (time_bytes c.kernel.time))
gettime_passed c clock at clock_is at_is known room =
    ap₂ (λ (n m : ℕ). answered_or (first_answer ((not (is_clock n), einval) ∷ (not (writable c m time_size), efault) ∷ [])) c (λ _. returns c 0 ▷ fills m (time_bytes c.kernel.time))) (sym clock_is) (sym at_is)
    ∙ ap₂ (λ (a b : Bool). answered_or (first_answer ((not a, einval) ∷ (not b, efault) ∷ [])) c (λ _. returns c 0 ▷ fills at (time_bytes c.kernel.time))) known room

-- the kernel wrote the bytes, and that is all
pub filled_does : (caller : Caller) (state : KernelState) (memory memory' : GuestMemory) (held held' : Reservations) (before after : EventList) (at : ℕ) (bytes wanted : List ℕ)
    → bytes ≡ wanted
    → memory_of memory' ≡ with_bytes (memory_of memory) at bytes
    → reserved_by held' ≡ after_write (reserved_by held) None (at / 4) (words_touched at (length bytes))
    → Adds (fill_event at (length bytes)) before after
    → Does (returns (asked caller state memory held) 0 ▷ fills at wanted) (Back 0) state memory' held' before after
filled_does caller state memory memory' held held' before after at bytes wanted is memories reserved events =
    subst (λ (bs : List ℕ). Does (returns (asked caller state memory held) 0 ▷ fills at bs) (Back 0) state memory' held' before after) is (record {
      answered = refl;
      state_is = refl;
      memory_is = memories;
      held_is = reserved;
      events = events;
    })
