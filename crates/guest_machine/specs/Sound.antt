-- What holds of a machine between steps.
use Rattle.std.specs.Prelude.{◌≡◌, ℕ, ◌%◌, List, [], ◌∷◌, map}
use Rattle.guest_kernel.specs.Invariant.{IsState}
use Rattle.guest_calls.specs.Lawful.{HoldersLive}
use Rattle.guest_calls.specs.Pages.{IsBreakFree}
use Rattle.guest_machine.specs.Machine.{Hart, MachineState}

-- this holds of the pc of each thread
abbrev pub OfEachPc : (ℕ → Type 0) → List Hart → Type 0
OfEachPc Holds [] = Unit {0}
OfEachPc Holds (h ∷ harts) = Holds h.1.pc × OfEachPc Holds harts

-- the pc of each thread is a multiple of 4
abbrev pub AreAligned : List Hart → Type 0
AreAligned harts = OfEachPc (λ pc. pc % 4 ≡ 0) harts

pub record IsSoundMachine (m : MachineState) : Type 0 where
  -- the kernel's threads are those that have registers
  pub same_threads : map (λ h. h.0) m.harts ≡ map (λ t. t.tid) m.kernel.threads
  pub aligned : AreAligned m.harts
  pub state : IsState m.kernel
  pub holders : HoldersLive m.held m.kernel
  pub break_free : IsBreakFree m.memory m.kernel.program_break
