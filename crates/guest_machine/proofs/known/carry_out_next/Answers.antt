use Rattle.std.proofs.Common.{◌%◌, ap, ◌∙◌}
use Rattle.rv_exec.specs.Effects.{ExecState, exec_state_of}
use Rattle.rv_exec.specs.Registers.{Registers}
use Rattle.guest_machine.proofs.Carried.{state_aligned}
use Rattle.guest_machine.proofs.known.carry_out_next.Goals as goal

pub find_instruction-requires : goal.find_instruction-requires
find_instruction-requires c =
    let old : ExecState = exec_state_of c.args.cpu.now c.args.memory.now c.args.held.now in
    ap (λ (r : Registers). r.pc % 4) c.cpu.view_is ∙ state_aligned old c.args.tid c.requires.0 c.requires.1
