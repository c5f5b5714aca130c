-- The clock wakes threads of a machine.
use Rattle.std.specs.Prelude.{ℕ, zero, suc, List, length, slice_set, Option, Some, None}
use Rattle.virtual_clock.specs.declared.deadline.Deadline.{Deadline}
use Rattle.rv_exec.specs.Registers.{Registers}
use Rattle.guest_kernel.specs.Waking.{next_due, woken_by_time}
use Rattle.guest_machine.specs.Machine.{Hart, MachineState, registers_of, with_registers}

-- the number is in a0, and the pc stays
abbrev pub with_answer : Registers → ℕ → Registers
with_answer r value = record r { regs = slice_set r.regs 10 value }

-- the thread of a deadline has its answer
abbrev pub answered : Option Deadline → List Hart → List Hart
answered None harts = harts
answered (Some d) harts = with_registers harts d.tid (with_answer (registers_of harts d.tid) d.answer)

-- The thread whose deadline is due first is woken, if one is. Where none is due and no thread can run, the time goes on to the
-- earliest deadline, and it is due.
abbrev pub one_woken : MachineState → MachineState
one_woken m = record m { harts = answered (next_due m.kernel) m.harts; kernel = woken_by_time m.kernel }

-- that many are, one after another
unfoldable pub woken_times : ℕ → MachineState → MachineState
woken_times zero m = m
woken_times (suc n) m = woken_times n (one_woken m)

-- All that are due are woken, which are at most as many as there are deadlines.
unfoldable pub woken : MachineState → MachineState
woken m = woken_times (length m.kernel.deadlines) m
