-- The whole state of a guest.
use Rattle.std.specs.Prelude.{ℕ, Bool, List, [], ◌∷◌, ◌++◌, replicate}
use Rattle.std.specs.Option.{unwrap_or}
use Rattle.guest_words.specs.ByThread.{value_of, with_value, without_thread}
use Rattle.guest_memory.specs.Memory.{Memory}
use Rattle.guest_memory.specs.Reserved.{Reserved}
use Rattle.rv_exec.specs.Registers.{Registers}
use Rattle.guest_kernel.specs.Kernel as kernel
use Rattle.guest_kernel.specs.Kernel.{KernelState}

-- a live thread: its number and its registers
abbrev pub Hart : Type 0
Hart = ℕ × Registers

pub record MachineState : Type 0 where
  -- the registers of the live threads, by rising thread number
  pub harts : List Hart
  pub kernel : KernelState
  pub memory : Memory
  pub held : Reserved

-- the time is that of one step later
abbrev pub later : MachineState → MachineState
later m = record m { kernel = kernel.later m.kernel }

-- a thread can run where it lives, is not in the waiting list and has no deadline
abbrev pub can_run : MachineState → ℕ → Bool
can_run m tid = kernel.can_run m.kernel tid

-- the live threads, by rising thread number, each with whether it can run
abbrev pub ready : MachineState → List (ℕ × Bool)
ready m = kernel.ready m.kernel

-- the registers of a thread that does not live
abbrev pub no_registers : Registers
no_registers = record { pc = 0; regs = replicate 32 0 }

abbrev pub registers_of : List Hart → ℕ → Registers
registers_of harts tid = unwrap_or (value_of harts tid) no_registers

-- the thread has these registers, and the others have what they had
abbrev pub with_registers : List Hart → ℕ → Registers → List Hart
with_registers harts tid r = with_value harts tid r

-- one thread more
abbrev pub with_hart : List Hart → ℕ → Registers → List Hart
with_hart harts tid r = harts ++ (tid, r) ∷ []

-- the thread is removed
abbrev pub without_hart : List Hart → ℕ → List Hart
without_hart harts tid = without_thread harts tid
