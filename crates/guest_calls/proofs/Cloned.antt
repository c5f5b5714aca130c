-- clone(2): that no test refuses it, and what its two fills come to.
use Rattle.std.proofs.Common.{◌≡◌, ℕ, ◌≤◌, ◌+◌, Bool, true, false, not, List, [], ◌++◌, Option, None, append_assoc, append-nil, length, length-append, arith, refl, ap, sym, subst, ◌∙◌}
use Rattle.trace_model.specs.declared.event_kinds.Event.{Event}
use Rattle.trace_model.specs.EventList.{EventList}
use Rattle.guest_memory.specs.declared.memory.GuestMemory.{GuestMemory}
use Rattle.guest_memory.specs.declared.reservations.Reservations.{Reservations}
use Rattle.guest_memory.specs.Memory.{Memory}
use Rattle.guest_memory.specs.Reserved.{Reserved, without_thread}
use Rattle.guest_memory.specs.ReservedBy.{reserved_by}
use Rattle.rv_exec.specs.Registers.{Registers}
use Rattle.guest_kernel.specs.declared.answer.Answer.TheVariants.{Born}
use Rattle.guest_calls.specs.declared.caller.Caller.{Caller}
use Rattle.guest_kernel.specs.Threads.{is_full, with_thread}
use Rattle.guest_calls.specs.Clone.{are_flags_taken, child_clear_tid, child_registers, clone, clone_effect, is_denied, sets_child, sets_parent}
use Rattle.guest_kernel.specs.Errors.{eagain, efault, enosys}
use Rattle.guest_kernel.specs.Kernel.{KernelState}
use Rattle.guest_kernel.specs.Copies.{KeepsRoom, fill_event}
use Rattle.guest_calls.specs.Outcome.{asked, guest_of, Does}
use Rattle.guest_calls.specs.Results.{Syscall, SyscallResult, Guest, answered_or, arg, filled_where, first_answer, has, ◌⇒◌, ◌or◌}
use Rattle.guest_kernel.proofs.Room.{fill_few}

none_holds : (a b d e : Bool) → a ≡ false → b ≡ false → d ≡ false → e ≡ false
    → first_answer (a ⇒ enosys or b ⇒ eagain or d ⇒ efault or e ⇒ efault) ≡ None
none_holds a b d e p q r s = rw (p, q, r, s) refl

-- no test refuses it
pub clone_passed : (c : Syscall) → are_flags_taken (arg c 0) ≡ true → is_full c.kernel ≡ false
    → is_denied c.memory (has (arg c 0) sets_parent) (arg c 2) ≡ false
    → is_denied c.memory (has (arg c 0) sets_child) (arg c 4) ≡ false → clone c ≡ clone_effect c
clone_passed c taken free parent child =
    ap (λ (a : Option ℕ). answered_or a c (λ _. clone_effect c))
    (none_holds (not (are_flags_taken (arg c 0))) (is_full c.kernel) (is_denied c.memory (has (arg c 0) sets_parent) (arg c 2))
    (is_denied c.memory (has (arg c 0) sets_child) (arg c 4)) (ap not taken) free parent child)

-- the events of a fill come behind those before it
filled_behind : (wanted : Bool) (at n : ℕ) (g : Guest) (before : List Event)
    → filled_where wanted at n (record g { events = before ++ g.events })
    ≡ record (filled_where wanted at n g) { events = before ++ (filled_where wanted at n g).events }
filled_behind true at n g before = simp append_assoc
filled_behind false at n g before = refl

pub filled_twice : (b d : Bool) (to at n : ℕ) (m : Memory) (h : Reserved) (before : List Event)
    → filled_where d at n (filled_where b to n (record { memory = m; held = h; events = before }))
    ≡ record (filled_where d at n (filled_where b to n (record { memory = m; held = h; events = [] }))) {
      events = before ++ (filled_where d at n (filled_where b to n (record { memory = m; held = h; events = [] }))).events;
    }
filled_twice b d to at n m h before =
    let start : Guest = record { memory = m; held = h; events = [] } in
    ap (λ (es : List Event). filled_where d at n (filled_where b to n (record { memory = m; held = h; events = es }))) (sym (append-nil before))
    ∙ (ap (filled_where d at n) (filled_behind b to n start before) ∙ filled_behind d at n (filled_where b to n start) before)

-- a word that is filled where that is asked for
pub room_where : (asked : Bool) (at n : ℕ) (old new : Guest) → new ≡ filled_where asked at n old → length new.events ≤ length old.events + 1
room_where true at n old new is =
    let e = ap (λ (g : Guest). length g.events) is ∙ length-append old.events (fill_event at 4) in
    let few = fill_few at 4 in
    omega (arith, e, few)
room_where false at n old new is = let e = ap (λ (g : Guest). length g.events) is in omega (arith, e)

-- what the code does is the effect
pub clone_does : (caller : Caller) (state after : KernelState) (memory last : GuestMemory) (held kept left : Reservations)
    (events all : EventList) (between : Guest) (flags to at n m tid : ℕ) (b d : Bool) (child : Registers)
    → (let c = asked caller state memory held in
    flags ≡ arg c 0 → to ≡ arg c 2 → at ≡ arg c 4 → tid ≡ state.last_tid + 1 → n ≡ tid → m ≡ tid
    → b ≡ has flags sets_parent → d ≡ has flags sets_child
    → clone c ≡ clone_effect c
    → between ≡ filled_where b to n (guest_of memory held events)
    → guest_of last kept all ≡ filled_where d at m between
    → child ≡ child_registers c.registers flags (arg c 1) (arg c 3)
    → after ≡ with_thread tid (child_clear_tid flags at) state
    → reserved_by left ≡ without_thread (reserved_by kept) tid
    → KeepsRoom events all
    → Does (clone c) (Born tid child) after last left events all)
clone_does caller state after memory last held kept left events all between flags to at n m tid b d child e0 e2 e4 next n_is m_is b_is d_is same one two child_is after_is left_is room =
    let c = asked caller state memory held in
    let number = state.last_tid + 1 in
    let both : guest_of last kept all ≡ filled_where (has (arg c 0) sets_child) (arg c 4) number
    (filled_where (has (arg c 0) sets_parent) (arg c 2) number (guest_of memory held events)) = cc in
    let parts = both ∙ filled_twice (has (arg c 0) sets_parent) (has (arg c 0) sets_child) (arg c 2) (arg c 4) number c.memory c.held events.list in
    let left_of : reserved_by left ≡ without_thread (reserved_by kept) number = cc in
    subst (λ (r : SyscallResult). Does r (Born tid child) after last left events all) (sym same) (record {
      answered = cc;
      state_is = cc;
      memory_is = ap (λ (g : Guest). g.memory) parts;
      held_is = left_of ∙ ap (λ (g : Guest). without_thread g.held number) parts;
      events = record { list_is = ap (λ (g : Guest). g.events) parts; room = room };
    })
