-- Waits that may have an end.
use Rattle.std.proofs.Common.{◌≡◌, ℕ, Bool, true, false, cond, List, [], ◌++◌, Option, Some, None, refl, ap₂, subst}
use Rattle.std.specs.Prelude.{◌&&◌, ◌==◌, is_some, not}
use Rattle.std.proofs.lemmas.Bool.{ne_eqb}
use Rattle.trace_model.specs.EventList.{EventList}
use Rattle.trace_model.specs.declared.event_kinds.Event.{Event}
use Rattle.guest_memory.specs.declared.memory.GuestMemory.{GuestMemory}
use Rattle.guest_memory.specs.declared.reservations.Reservations.{Reservations}
use Rattle.guest_kernel.specs.declared.answer.Answer.{Answer}
use Rattle.guest_kernel.specs.declared.answer.Answer.TheVariants.{Back, Block}
use Rattle.guest_calls.specs.declared.caller.Caller.{Caller}
use Rattle.guest_calls.specs.Clock.{time_size}
use Rattle.guest_kernel.specs.Errors.{eagain, etimedout}
use Rattle.guest_kernel.specs.Waits.{with_waiter}
use Rattle.guest_calls.specs.Futex.{futex_at, futex_limit, futex_value, is_over, waited, waits_for, with_end}
use Rattle.guest_kernel.specs.Kernel.{KernelState}
use Rattle.guest_calls.proofs.Passed.{asked_reach}
use Rattle.guest_kernel.proofs.Room.{adds_more}
use Rattle.guest_kernel.specs.Copies.{Adds, read_event}
use Rattle.guest_calls.specs.Outcome.{Does, asked}
use Rattle.guest_calls.specs.Results.{Syscall, SyscallResult, answers, either, reads, returns, when, word, ◌▷◌}

abbrev pub limit_read : Option ℕ → ℕ → ℕ → List Event
limit_read end tid at = cond (is_some end) (read_event tid at time_size) []

abbrev begun : Syscall → ℕ → Option ℕ → KernelState
begun c bits end = with_end c.tid end (with_waiter (futex_at c) c.tid bits c.kernel)

-- by whether the word is the value and the end is over
abbrev waited_by : Syscall → ℕ → Option ℕ → Bool → Bool → SyscallResult
waited_by c bits end same over =
    returns c 0 ▷ when (is_some end) (reads c.tid (futex_limit c) time_size) ▷ reads c.tid (futex_at c) 4
    ▷ either same (either over (answers (Back etimedout)) (waits_for c bits end)) (answers (Back eagain))

does_by : (caller : Caller) (state new : KernelState) (memory : GuestMemory) (held : Reservations) (before after : EventList) (bits : ℕ) (end : Option ℕ) (answer : Answer) (same over : Bool)
    → let c = asked caller state memory held in
    Adds (limit_read end caller.tid (futex_limit c) ++ read_event caller.tid (futex_at c) 4) before after
    → answer ≡ cond same (cond over (Back etimedout) Block) (Back eagain)
    → new ≡ cond same (cond over state (begun c bits end)) state
    → Does (waited_by c bits end same over) answer new memory held before after
does_by caller state new memory held before after bits None answer true true events answered becomes = record { answered = answered; state_is = becomes; memory_is = refl; held_is = refl; events = events }
does_by caller state new memory held before after bits None answer true false events answered becomes = record { answered = answered; state_is = becomes; memory_is = refl; held_is = refl; events = events }
does_by caller state new memory held before after bits None answer false over events answered becomes = record { answered = answered; state_is = becomes; memory_is = refl; held_is = refl; events = events }
does_by caller state new memory held before after bits (Some end) answer true true events answered becomes = record { answered = answered; state_is = becomes; memory_is = refl; held_is = refl; events = events }
does_by caller state new memory held before after bits (Some end) answer true false events answered becomes = record { answered = answered; state_is = becomes; memory_is = refl; held_is = refl; events = events }
does_by caller state new memory held before after bits (Some end) answer false over events answered becomes = record { answered = answered; state_is = becomes; memory_is = refl; held_is = refl; events = events }

pub waited_does : (caller : Caller) (state new : KernelState) (memory : GuestMemory) (held : Reservations) (before middle after : EventList) (bits : ℕ) (end : Option ℕ) (answer : Answer) (same : Bool)
    → let c = asked caller state memory held in
    same ≡ (word c (futex_at c) == futex_value c)
    → Adds (limit_read end caller.tid (futex_limit c)) before middle
    → Adds (read_event caller.tid (futex_at c) 4) middle after
    → answer ≡ cond same (cond (is_over end state.time) (Back etimedout) Block) (Back eagain)
    → new ≡ cond same (cond (is_over end state.time) state (begun c bits end)) state
    → Does (waited c bits end) answer new memory held before after
waited_does caller state new memory held before middle after bits end answer same tested limit own answered becomes =
    let c = asked caller state memory held in
    let events = adds_more (limit_read end caller.tid (futex_limit c)) (read_event caller.tid (futex_at c) 4) before middle after limit own in
    subst (λ (b : Bool). Does (waited_by c bits end b (is_over end state.time)) answer new memory held before after) tested
    (does_by caller state new memory held before after bits end answer same (is_over end state.time) events answered becomes)

-- the limit of a wait is in reach, where that was tested
pub limit_in_reach : (wait reach : Bool) (limit : ℕ) → ((wait && not (limit == 0)) && not reach) ≡ false → wait ≡ true → (limit ≡ 0 → ⊥) → reach ≡ true
limit_in_reach wait reach limit passed is some =
    let set : (wait && not (limit == 0)) ≡ true = ap₂ (λ (a b : Bool). a && not b) is (ne_eqb limit 0 some) in
    asked_reach (wait && not (limit == 0)) reach passed set
