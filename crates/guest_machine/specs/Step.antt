-- One step of one thread: an instruction, or a system call.
use Rattle.std.specs.Prelude.{ℕ, ◌+◌, ◌%◌, ◌^◌, List, [], ◌∷◌, ◌++◌, map, slice_set, Option, Some, None, Result, Ok, Err}
use Rattle.guest_words.specs.declared.endings.FaultKind.{FaultKind}
use Rattle.guest_words.specs.declared.endings.FaultKind.TheVariants as fault
use Rattle.guest_memory.specs.declared.refusal.MemError.{MemError}
use Rattle.guest_memory.specs.declared.refusal.Permission.TheVariants as permission
use Rattle.guest_memory.specs.Memory.{Memory, loaded}
use Rattle.rv_isa.specs.Table.{decoded}
use Rattle.rv_isa.specs.declared.instruction.Instr.{Instr}
use Rattle.rv_exec.specs.Registers.{Registers}
use Rattle.rv_exec.specs.Effects.{ExecState, effect}
use Rattle.rv_exec.specs.declared.outcome.Access.{Access}
use Rattle.rv_exec.specs.declared.outcome.Access.TheVariants as access
use Rattle.rv_exec.specs.declared.outcome.Outcome.{Outcome}
use Rattle.rv_exec.specs.declared.outcome.Outcome.TheVariants as outcome
use Rattle.trace_model.specs.declared.event_kinds.Event.{Event}
use Rattle.trace_model.specs.declared.event_kinds.Event.TheVariants.{Step, Read, Write, Call, Ret, Start, End}
use Rattle.call_tracker.specs.Links.{kind_of}
use Rattle.call_tracker.specs.declared.jumps.JumpKind.{JumpKind}
use Rattle.call_tracker.specs.declared.jumps.JumpKind.TheVariants.{Nothing, Push, Pop, PopPush}
use Rattle.guest_calls.specs.Results as calls
use Rattle.guest_calls.specs.Results.{SyscallResult}
use Rattle.guest_kernel.specs.declared.answer.Answer.{Answer}
use Rattle.guest_kernel.specs.declared.answer.Answer.TheVariants.{Back, Yield, Block, ThreadEnd, ProcessEnd, Born}
use Rattle.guest_kernel.specs.declared.channel.Channel.{Channel}
use Rattle.guest_calls.specs.Table.{syscall}
use Rattle.guest_machine.specs.declared.stepped.Stepped.{Stepped}
use Rattle.guest_machine.specs.declared.stepped.Stepped.TheVariants.{Went, Yielded, Blocked, Ended, Finished, Faulted}
use Rattle.guest_machine.specs.Machine.{Hart, MachineState, later, registers_of, with_registers, with_hart, without_hart}

-- What a step gives.
pub record StepResult : Type 0 where
  pub machine : MachineState
  -- its events, in order
  pub events : List Event
  -- bytes that go out, with their channel
  pub out : Option (Channel × List ℕ)
  pub outcome : Stepped

-- ---- an instruction
-- the accesses of an instruction
abbrev pub access_events : ℕ → Access → List Event
access_events tid access.Nothing = []
access_events tid (access.Read first count) = Read tid first count ∷ []
access_events tid (access.Write first count) = Write tid first count ∷ []
access_events tid (access.Both word) = Read tid word 1 ∷ Write tid word 1 ∷ []

-- a call or a return, by the link registers: a jump to the target, with the address behind it
abbrev pub jump_events : JumpKind → ℕ → ℕ → ℕ → List Event
jump_events Nothing tid target back = []
jump_events Push tid target back = Call tid target back ∷ []
jump_events Pop tid target back = Ret tid target ∷ []
jump_events PopPush tid target back = Ret tid target ∷ Call tid target back ∷ []

abbrev pub pc_of : MachineState → ℕ → ℕ
pc_of m tid = (registers_of m.harts tid).pc

-- what an instruction of a thread works on
abbrev pub exec_state_of : MachineState → ℕ → ExecState
exec_state_of m tid = record { registers = registers_of m.harts tid; memory = m.memory; held = m.held }

abbrev pub with_exec_state : MachineState → ℕ → ExecState → MachineState
with_exec_state m tid c = record m { harts = with_registers m.harts tid c.registers; memory = c.memory; held = c.held }

-- the instruction at the pc did not run, and nothing changed
abbrev pub faulted : MachineState → ℕ → FaultKind → StepResult
faulted m tid kind = record { machine = m; events = []; out = None; outcome = Faulted kind (pc_of m tid) }

-- the instruction went, with these accesses
abbrev pub went : MachineState → ℕ → Instr → Access → ExecState → StepResult
went m tid i accessed c = record {
  machine = with_exec_state m tid c;
  events = Step tid ∷ (access_events tid accessed ++ jump_events (kind_of i) tid c.registers.pc ((pc_of m tid + 4) % 2 ^ 32));
  out = None;
  outcome = Went;
}

-- ---- a system call
abbrev pub syscall_of : MachineState → ℕ → calls.Syscall
syscall_of m tid = record { tid = tid; registers = registers_of m.harts tid; kernel = m.kernel; memory = m.memory; held = m.held }

-- the thread goes on behind the call, with the number in a0
abbrev pub resumed : Registers → ℕ → Registers
resumed r value = record { pc = (r.pc + 4) % 2 ^ 32; regs = slice_set r.regs 10 value }

abbrev pub harts_after : Answer → List Hart → ℕ → Registers → List Hart
harts_after (Back value) harts tid r = with_registers harts tid (resumed r value)
harts_after Yield harts tid r = with_registers harts tid (resumed r 0)
harts_after Block harts tid r = with_registers harts tid (resumed r 0)
harts_after ThreadEnd harts tid r = without_hart harts tid
harts_after (ProcessEnd status) harts tid r = []
harts_after (Born child registers) harts tid r = with_hart (with_registers harts tid (resumed r child)) child registers

-- the threads that start and end by the call
abbrev pub life_events : Answer → List Hart → ℕ → List Event
life_events ThreadEnd harts tid = End tid ∷ []
life_events (ProcessEnd status) harts tid = map (λ h. End h.0) harts
life_events (Born child registers) harts tid = Start child registers.pc ∷ []
life_events answer harts tid = []

abbrev pub stepped_by : Answer → Stepped
stepped_by (Back value) = Went
stepped_by Yield = Yielded
stepped_by Block = Blocked
stepped_by ThreadEnd = Ended
stepped_by (ProcessEnd status) = Finished status
stepped_by (Born child registers) = Went

abbrev pub after_syscall : MachineState → ℕ → SyscallResult → StepResult
after_syscall m tid r = record {
  machine = record {
    harts = harts_after r.answer m.harts tid (registers_of m.harts tid);
    kernel = r.kernel;
    memory = r.guest.memory;
    held = r.guest.held;
  };
  events = Step tid ∷ (r.guest.events ++ life_events r.answer m.harts tid);
  out = r.out;
  outcome = stepped_by r.answer;
}

-- the step of a system call, before which the time goes on
abbrev pub syscall_step : MachineState → ℕ → StepResult
syscall_step m tid = after_syscall (later m) tid (syscall (syscall_of (later m) tid))

-- ---- the step
-- the instruction at an address, or why it can't run
abbrev pub decoded_or_illegal : Option Instr → Result Instr FaultKind
decoded_or_illegal None = Err fault.Illegal
decoded_or_illegal (Some i) = Ok i

abbrev pub instruction_in : Result ℕ MemError → Result Instr FaultKind
instruction_in (Ok word) = decoded_or_illegal (decoded word)
instruction_in (Err refusal) = Err fault.Fetch

abbrev pub instruction_at : Memory → ℕ → Result Instr FaultKind
instruction_at m at = instruction_in (loaded m permission.Execute at 4)

-- by what became of the instruction: a fault leaves all as it is, and else the time goes on before the effect
abbrev pub after_effect : MachineState → ℕ → Instr → Outcome × ExecState → StepResult
after_effect m tid i (outcome.Went accessed, c) = went (later m) tid i accessed c
after_effect m tid i (outcome.Fault kind, c) = faulted m tid kind
after_effect m tid i (outcome.Syscall, c) = syscall_step m tid

abbrev pub executed : MachineState → ℕ → Result Instr FaultKind → StepResult
executed m tid (Ok i) = after_effect m tid i (effect tid i (exec_state_of m tid))
executed m tid (Err kind) = faulted m tid kind

-- what stands at the pc of a thread
abbrev pub next_instruction : MachineState → ℕ → Result Instr FaultKind
next_instruction m tid = instruction_at m.memory (pc_of m tid)

-- the word at the pc is fetched, decoded and executed
unfoldable pub step : MachineState → ℕ → StepResult
step m tid = executed m tid (next_instruction m tid)
