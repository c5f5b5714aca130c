-- The numbers that a step tells are in their ranges.
use Rattle.std.proofs.Common.{ℕ, zero, suc, ◌+◌, ◌*◌, ◌/◌, ◌%◌, ◌^◌, ◌&&◌, Bool, true, false, List, [], ◌∷◌, ◌++◌, length, map, Option, Some, None, Ok, Err, sym, subst, arith}
use Rattle.std.specs.Prelude.{Result, ℤ, pos, negsuc, nat_eq}
use Rattle.std.specs.List.{AllByRecursion}
use Rattle.guest_words.specs.declared.endings.FaultKind.{FaultKind}
use Rattle.guest_words.specs.declared.endings.FaultKind.TheVariants as fault
use Rattle.guest_memory.specs.Memory.{byte_count}
use Rattle.guest_memory.specs.Reserved.{holds, without_thread}
use Rattle.rv_isa.specs.declared.instruction.AtomicOp.{AtomicOp}
use Rattle.rv_isa.specs.declared.instruction.AtomicOp.TheVariants.{Lr, Sc}
use Rattle.rv_isa.specs.declared.instruction.Instr.{Instr}
use Rattle.rv_isa.specs.declared.instruction.Instr.TheVariants.{Jal, Jalr, Branch, Load, Store, Atomic, Ecall, Ebreak}
use Rattle.rv_exec.specs.Accesses.{can_read, can_write, load_size, store_size}
use Rattle.rv_exec.specs.Effects.{ExecState, atomic_at, branched, checked, effect, jumped, next, store_where, written, x}
use Rattle.rv_exec.specs.Operations.{add_offset, is_taken, low_32_bits}
use Rattle.rv_exec.specs.Registers.{Registers}
use Rattle.rv_exec.specs.declared.outcome.Access.{Access}
use Rattle.rv_exec.specs.declared.outcome.Access.TheVariants as access
use Rattle.rv_exec.specs.declared.outcome.Outcome.{Outcome}
use Rattle.rv_exec.specs.declared.outcome.Outcome.TheVariants as outcome
use Rattle.call_tracker.specs.Links.{kind_of}
use Rattle.call_tracker.specs.declared.jumps.JumpKind.{JumpKind}
use Rattle.call_tracker.specs.declared.jumps.JumpKind.TheVariants.{Nothing, Push, Pop, PopPush}
use Rattle.trace_model.specs.declared.event_kinds.Event.{Event}
use Rattle.trace_model.specs.declared.event_kinds.Event.TheVariants as events
use Rattle.virtual_clock.specs.declared.deadline.Deadline.{Deadline}
use Rattle.guest_kernel.specs.declared.answer.Answer.{Answer}
use Rattle.guest_kernel.specs.declared.answer.Answer.TheVariants.{ThreadEnd, ProcessEnd, Born}
use Rattle.guest_calls.specs.Lawful.{AreCopies}
use Rattle.guest_calls.specs.Table.{syscall}
use Rattle.guest_kernel.specs.Waking.{next_due}
use Rattle.guest_calls.proofs.AllCalls.{every_syscall_is_lawful}
use Rattle.guest_machine.specs.Laws.{EveryStepIsInRange, EveryWakingIsInRange, HaveAddresses, IsAddress, IsStepInRange, IsToldInRange, TellsAddresses}
use Rattle.guest_machine.specs.Machine.{Hart, MachineState, later, registers_of}
use Rattle.guest_machine.specs.Step.{access_events, after_effect, syscall_of, exec_state_of, executed, jump_events, life_events, next_instruction, pc_of, step, stepped_by}
use Rattle.guest_machine.specs.Waking.{answered, one_woken, with_answer, woken, woken_times}
use Rattle.guest_machine.proofs.Called.{after_each}
use Rattle.guest_calls.specs.Lawful.{BeginsBehind, EndsWithByte}
use Rattle.guest_machine.proofs.Registers.{each-with_registers, pc_of_each}

-- ---- the pc after an instruction
behind : (pc : ℕ) → IsAddress ((pc + 4) % 2 ^ 32)
behind pc = omega arith

low_address : (z : ℤ) → IsAddress (low_32_bits z)
low_address (pos n) = omega arith
low_address (negsuc n) = omega arith

even_address : (at : ℕ) → IsAddress at → IsAddress (at / 2 * 2)
even_address at low = omega (arith, low)

-- of what a test leaves
checked_keeps : {S : Type 0} (Holds : S → Type 0) (b : Bool) (kind : FaultKind) (s : S) (rest : Unit {0} → Outcome × S) → Holds s → Holds (rest tt).1 → Holds (checked b kind s rest).1
checked_keeps Holds true kind s rest old new = new
checked_keeps Holds false kind s rest old new = old

-- registers, and what an instruction works on, with an address in the pc
abbrev HasAddress : Registers → Type 0
HasAddress r = IsAddress r.pc

abbrev IsAtAddress : ExecState → Type 0
IsAtAddress c = HasAddress c.registers

jumped_address : (target : ℕ) (regs : List ℕ) (r : Registers) → HasAddress r → IsAddress target → HasAddress (jumped target regs r).1
jumped_address target regs r old new = checked_keeps HasAddress (nat_eq (target % 4) 0) fault.JumpAlign r _ old new

branched_address : (b : Bool) (target : ℕ) (r : Registers) → HasAddress r → IsAddress target → HasAddress (branched b target r).1
branched_address true target r old new = jumped_address target r.regs r old new
branched_address false target r old new = behind r.pc

stored_address : (b : Bool) (tid rd at n : ℕ) (c : ExecState) → IsAtAddress (store_where b tid rd at n c).1
stored_address true tid rd at n c = behind c.registers.pc
stored_address false tid rd at n c = behind c.registers.pc

atomic_address : (tid : ℕ) (op : AtomicOp) (rd at n : ℕ) (c : ExecState) → IsAtAddress c → IsAtAddress (atomic_at tid op rd at n c).1
atomic_address tid Lr rd at n c old = checked_keeps IsAtAddress (can_read c.memory at 4) fault.Load c _ old (behind c.registers.pc)
atomic_address tid Sc rd at n c old =
    checked_keeps IsAtAddress (can_write c.memory at 4) fault.Store c _ old
    (stored_address (holds c.held tid (at / 4)) tid rd at n (record c { held = without_thread c.held tid }))
atomic_address tid op rd at n c old = checked_keeps IsAtAddress (can_read c.memory at 4 && can_write c.memory at 4) fault.Store c _ old (behind c.registers.pc)

effect_address : (tid : ℕ) (i : Instr) (c : ExecState) → IsAtAddress c → IsAtAddress (effect tid i c).1
effect_address tid (Jal rd offset) c old =
    jumped_address (add_offset c.registers.pc offset) (written c.registers rd (next c.registers)) c.registers old (low_address _)
effect_address tid (Jalr rd base offset) c old =
    jumped_address (add_offset (x c base) offset / 2 * 2) (written c.registers rd (next c.registers)) c.registers old (even_address _ (low_address _))
effect_address tid (Branch test left right offset) c old =
    branched_address (is_taken test (x c left) (x c right)) (add_offset c.registers.pc offset) c.registers old (low_address _)
effect_address tid (Load kind rd base offset) c old =
    checked_keeps HasAddress (can_read c.memory (add_offset (x c base) offset) (byte_count (load_size kind))) fault.Load c.registers _ old (behind c.registers.pc)
effect_address tid (Store kind from base offset) c old =
    checked_keeps IsAtAddress (can_write c.memory (add_offset (x c base) offset) (byte_count (store_size kind))) fault.Store c _ old (behind c.registers.pc)
effect_address tid (Atomic op rd base from order) c old =
    checked_keeps IsAtAddress (nat_eq (x c base % 4) 0) fault.AtomicAlign c _ old (atomic_address tid op rd (x c base) (x c from) c old)
effect_address tid Ecall c old = old
effect_address tid Ebreak c old = old
effect_address tid _ c old = behind c.registers.pc

-- ---- events
pub tells-append : (xs ys : List Event) → AllByRecursion TellsAddresses xs → AllByRecursion TellsAddresses ys → AllByRecursion TellsAddresses (xs ++ ys)
tells-append [] ys front back = back
tells-append (e ∷ xs) ys front back = (front.0, tells-append xs ys front.1 back)

access_tells : (tid : ℕ) (a : Access) → AllByRecursion TellsAddresses (access_events tid a)
access_tells tid access.Nothing = tt
access_tells tid (access.Read first count) = (tt, tt)
access_tells tid (access.Write first count) = (tt, tt)
access_tells tid (access.Both word) = (tt, (tt, tt))

jump_tells : (kind : JumpKind) (tid target back : ℕ) → IsAddress target → IsAddress back → AllByRecursion TellsAddresses (jump_events kind tid target back)
jump_tells Nothing tid target back goes comes = tt
jump_tells Push tid target back goes comes = ((goes, comes), tt)
jump_tells Pop tid target back goes comes = (goes, tt)
jump_tells PopPush tid target back goes comes = (goes, ((goes, comes), tt))

copies_tell : (tid : ℕ) (copies : List Event) → AreCopies tid copies → AllByRecursion TellsAddresses copies
copies_tell tid [] are = tt
copies_tell tid (events.Read t first count ∷ copies) are = (tt, copies_tell tid copies are.1)
copies_tell tid (events.Fill first count ∷ copies) are = (tt, copies_tell tid copies are.1)
copies_tell tid (_ ∷ copies) are = absurd are.0

ends_tell : (harts : List Hart) → AllByRecursion TellsAddresses (map (λ (h : Hart). events.End h.0) harts)
ends_tell [] = tt
ends_tell (h ∷ harts) = (tt, ends_tell harts)

life_tells : (answer : Answer) (harts : List Hart) (tid pc : ℕ) → BeginsBehind pc answer → AllByRecursion TellsAddresses (life_events answer harts tid)
life_tells ThreadEnd harts tid pc begins = (tt, tt)
life_tells (ProcessEnd status) harts tid pc begins = ends_tell harts
life_tells (Born child registers) harts tid pc begins = (subst IsAddress (sym begins) (behind pc), tt)
life_tells _ harts tid pc begins = tt

answer_told : (answer : Answer) → EndsWithByte answer → IsToldInRange (stepped_by answer)
answer_told (ProcessEnd status) byte = byte
answer_told _ byte = tt

-- ---- a step
no_pc : IsAddress 0
no_pc = omega arith

pc_address : (m : MachineState) (tid : ℕ) → HaveAddresses m.harts → IsAddress (pc_of m tid)
pc_address m tid all = pc_of_each IsAddress no_pc m.harts tid all

effect_in_range : (m : MachineState) (tid : ℕ) (i : Instr) (given : Outcome × ExecState) → HaveAddresses m.harts → IsAtAddress given.1 → IsStepInRange (after_effect m tid i given)
effect_in_range m tid i (outcome.Went accessed, c) all new = record {
  harts = each-with_registers IsAddress m.harts tid c.registers all new;
  events = (
    tt,
    tells-append (access_events tid accessed) _ (access_tells tid accessed) (jump_tells (kind_of i) tid c.registers.pc ((pc_of m tid + 4) % 2 ^ 32) new (behind (pc_of m tid))),
  );
  outcome = tt;
}
effect_in_range m tid i (outcome.Fault kind, c) all new = record { harts = all; events = tt; outcome = pc_address m tid all }
effect_in_range m tid i (outcome.Syscall, c) all new =
    let made = syscall_of (later m) tid in
    let r = syscall made in
    let lawful = every_syscall_is_lawful made in
    record {
      harts = after_each IsAddress no_pc (λ pc low. behind pc) r.answer m.harts tid all lawful.begins;
      events = (
        tt,
        tells-append r.guest.events _ (copies_tell tid r.guest.events lawful.copies) (life_tells r.answer m.harts tid (pc_of m tid) lawful.begins),
      );
      outcome = answer_told r.answer lawful.byte;
    }

executed_in_range : (m : MachineState) (tid : ℕ) (found : Result Instr FaultKind) → HaveAddresses m.harts → IsStepInRange (executed m tid found)
executed_in_range m tid (Ok i) all = effect_in_range m tid i (effect tid i (exec_state_of m tid)) all (effect_address tid i (exec_state_of m tid) (pc_address m tid all))
executed_in_range m tid (Err kind) all = record { harts = all; events = tt; outcome = pc_address m tid all }

pub every_step_in_range : EveryStepIsInRange
unfolding step
every_step_in_range m tid all = executed_in_range m tid (next_instruction m tid) all

-- ---- a waking
answered_addresses : (o : Option Deadline) (harts : List Hart) → HaveAddresses harts → HaveAddresses (answered o harts)
answered_addresses None harts all = all
answered_addresses (Some d) harts all =
    each-with_registers IsAddress harts d.tid (with_answer (registers_of harts d.tid) d.answer) all (pc_of_each IsAddress no_pc harts d.tid all)

times_addresses : (n : ℕ) (m : MachineState) → HaveAddresses m.harts → HaveAddresses (woken_times n m).harts
unfolding woken_times
times_addresses zero m all = all
times_addresses (suc n) m all = times_addresses n (one_woken m) (answered_addresses (next_due m.kernel) m.harts all)

pub every_waking_in_range : EveryWakingIsInRange
unfolding woken
every_waking_in_range m all = times_addresses (length m.kernel.deadlines) m all
