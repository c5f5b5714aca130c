-- From the state's system calls to the kernel's.
use Rattle.std.proofs.Common.{◌≡◌, ◌≤◌, ◌+◌, List, ◌++◌, length, Ok, Err, arith, ap, sym, subst, ◌∙◌}
use Rattle.std.specs.Prelude.{Result, IfOk, OnErr}
use Rattle.std.specs.declared.alloc.AllocError.{AllocError}
use Rattle.guest_words.specs.declared.limits.TheConstants.{SYSCALL_EVENTS}
use Rattle.guest_memory.specs.declared.memory.GuestMemory.{GuestMemory}
use Rattle.guest_memory.specs.declared.reservations.Reservations.{Reservations}
use Rattle.guest_memory.specs.Guest.{memory_of}
use Rattle.guest_memory.specs.Memory.{Memory}
use Rattle.trace_model.specs.EventList.{EventList}
use Rattle.trace_model.specs.declared.event_kinds.Event.{Event}
use Rattle.guest_kernel.specs.declared.answer.Answer.{Answer}
use Rattle.guest_kernel.specs.Kernel.{KernelState}
use Rattle.guest_kernel.specs.declared.kernel.Kernel.{Kernel}
use Rattle.guest_calls.specs.Outcome.{Does, Gives, IsAsBefore}
use Rattle.guest_calls.specs.Pages.{IsBreakFree}
use Rattle.guest_calls.specs.Results.{Syscall, SyscallResult}
use Rattle.guest_calls.specs.Table.{syscall}
use Rattle.guest_calls.proofs.AllCalls.{every_syscall_is_lawful}
use Rattle.guest_kernel.proofs.Room.{room_left}

pub does_before : (r : SyscallResult) (answer : Answer) (state : KernelState) (memory : GuestMemory) (held : Reservations) (b b' after : EventList) → b.list ≡ b'.list → b'.room ≤ b.room → Does r answer state memory held b after → Does r answer state memory held b' after
does_before r answer state memory held b b' after same more d = record {
  answered = d.answered;
  state_is = d.state_is;
  memory_is = d.memory_is;
  held_is = d.held_is;
  events = record {
    list_is = d.events.list_is ∙ ap (λ (es : List Event). es ++ r.guest.events) same;
    room = let n = ap length same in let kept = d.events.room in omega (arith, n, more, kept);
  };
}

-- room for more events changes no list
pub gives_before : (r : SyscallResult) (answer : Answer) (kept : Kernel) (memory : GuestMemory) (held : Reservations) (b b' after : EventList) → b.list ≡ b'.list → b'.room ≤ b.room → Gives r answer kept memory held b after → Gives r answer kept memory held b' after
gives_before r answer kept memory held b b' after same more g = record { does = does_before r answer kept.state memory held b b' after same more g.does; out = g.out }

pub if_gives_before : (result : Result Answer AllocError) (r : SyscallResult) (kept : Kernel) (memory : GuestMemory) (held : Reservations) (b b' after : EventList) → b.list ≡ b'.list → b'.room ≤ b.room → IfOk result (λ (answer : Answer). Gives r answer kept memory held b after) → IfOk result (λ (answer : Answer). Gives r answer kept memory held b' after)
if_gives_before (Ok answer) r kept memory held b b' after same more g = gives_before r answer kept memory held b b' after same more g
if_gives_before (Err e) r kept memory held b b' after same more g = g

pub refused_before : (result : Result Answer AllocError) (kept new : Kernel) (memory memory' : GuestMemory) (held held' : Reservations) (b b' after : EventList) → b.list ≡ b'.list → b'.room ≤ b.room → OnErr result (IsAsBefore kept new memory memory' held held' b after) → OnErr result (IsAsBefore kept new memory memory' held held' b' after)
refused_before (Ok answer) kept new memory memory' held held' b b' after same more h = h
refused_before (Err e) kept new memory memory' held held' b b' after same more h = record {
  untouched = record { state_same = h.untouched.state_same; memory_same = h.untouched.memory_same; held_same = h.untouched.held_same; events_same = h.untouched.events_same ∙ same; room = let n = ap length same in let kept = h.untouched.room in omega (arith, n, more, kept) };
  out_same = h.out_same;
}

-- the room that a call leaves
pub room_after : (made : Syscall) (answer : Answer) (kept : Kernel) (memory : GuestMemory) (held : Reservations) (before after : EventList) → Gives (syscall made) answer kept memory held before after → before.room ≤ after.room + SYSCALL_EVENTS
room_after made answer kept memory held before after g =
    let left = room_left (syscall made).guest.events before after g.does.events in
    let few = (every_syscall_is_lawful made).few in
    omega (arith, left, few)

-- the pages behind the break are free after a call
pub free_after : (made : Syscall) (answer : Answer) (kept : Kernel) (memory : GuestMemory) (held : Reservations) (b after : EventList) → Gives (syscall made) answer kept memory held b after → IsBreakFree made.memory made.kernel.program_break → IsBreakFree (memory_of memory) kept.state.program_break
free_after made answer kept memory held b after g free =
    subst (λ (m : Memory). IsBreakFree m kept.state.program_break) (sym g.does.memory_is)
    (subst (λ (k : KernelState). IsBreakFree (syscall made).guest.memory k.program_break) (sym g.does.state_is) ((every_syscall_is_lawful made).break_free free))

pub free_either_way : (result : Result Answer AllocError) (made : Syscall) (old kept : Kernel) (memory memory' : GuestMemory) (held held' : Reservations) (b b' after : EventList) → IfOk result (λ (answer : Answer). Gives (syscall made) answer kept memory' held' b after) → OnErr result (IsAsBefore old kept memory memory' held held' b' after) → old.state ≡ made.kernel → memory_of memory ≡ made.memory → IsBreakFree made.memory made.kernel.program_break → IsBreakFree (memory_of memory') kept.state.program_break
free_either_way (Ok answer) made old kept memory memory' held held' b b' after g h kernel_is memory_is free = free_after made answer kept memory' held' b after g free
free_either_way (Err e) made old kept memory memory' held held' b b' after g h kernel_is memory_is free =
    subst (λ (m : Memory). IsBreakFree m kept.state.program_break) (sym (h.untouched.memory_same ∙ memory_is))
    (subst (λ (k : KernelState). IsBreakFree made.memory k.program_break) (sym (h.untouched.state_same ∙ kernel_is)) free)
