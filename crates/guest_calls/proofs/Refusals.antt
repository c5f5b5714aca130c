-- Calls that change nothing, and the operations of futex(2).
use Rattle.std.proofs.Common.{◌≡◌, ℕ, Option, Some, None, refl, ap, ◌∙◌}
use Rattle.std.specs.Option.{option_map_or}
use Rattle.guest_memory.specs.declared.memory.GuestMemory.{GuestMemory}
use Rattle.guest_memory.specs.declared.reservations.Reservations.{Reservations}
use Rattle.trace_model.specs.EventList.{EventList}
use Rattle.guest_kernel.specs.declared.answer.Answer.TheVariants.{Back}
use Rattle.guest_calls.specs.declared.caller.Caller.{Caller}
use Rattle.guest_calls.specs.declared.operation.Operation.{Operation}
use Rattle.guest_kernel.specs.Errors.{enosys}
use Rattle.guest_calls.specs.Futex.{futex, futex_by, futex_tests, operation, performed}
use Rattle.guest_kernel.specs.Kernel.{KernelState}
use Rattle.guest_calls.specs.Outcome.{asked, Does}
use Rattle.guest_calls.specs.Results.{Syscall, answered_or, first_answer, returns}
use Rattle.guest_kernel.proofs.Room.{adds_none}

-- nothing is done, and this is answered
pub does_nothing : (caller : Caller) (state : KernelState) (memory : GuestMemory) (held : Reservations) (events : EventList) (value : ℕ) → Does (returns (asked caller state memory held) value) (Back value) state memory held events events
does_nothing caller state memory held events value = record {
  answered = refl;
  state_is = refl;
  memory_is = refl;
  held_is = refl;
  events = adds_none events;
}

-- a test refuses the operation
pub futex_refused : (c : Syscall) (o : Operation) (errno : ℕ) → operation c ≡ Some o → first_answer (futex_tests o c) ≡ Some errno → futex c ≡ returns c errno
futex_refused c o errno is refused =
    ap (λ (x : Option Operation). option_map_or (futex_by c) x (returns c enosys)) is ∙ ap (λ (a : Option ℕ). answered_or a c (λ _. performed o c)) refused

-- no test refuses it
pub futex_performed : (c : Syscall) (o : Operation) → operation c ≡ Some o → first_answer (futex_tests o c) ≡ None → futex c ≡ performed o c
futex_performed c o is passed =
    ap (λ (x : Option Operation). option_map_or (futex_by c) x (returns c enosys)) is ∙ ap (λ (a : Option ℕ). answered_or a c (λ _. performed o c)) passed
