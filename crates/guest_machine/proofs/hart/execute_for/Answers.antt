use Rattle.std.proofs.Common.{◌≡◌, ◌∙◌, ap, sym, Some}
use Rattle.std.specs.Prelude.{is_some}
use Rattle.std.specs.Option.{option_copied_mut}
use Rattle.guest_memory.specs.Guest.{memory_of}
use Rattle.guest_memory.specs.ReservedBy.{reserved_by}
use Rattle.guest_words.specs.ByThread.{value_of}
use Rattle.rv_exec.specs.Effects.{effect}
use Rattle.rv_exec.specs.Registers.{Registers}
use Rattle.guest_machine.specs.Machine.{registers_of, with_registers}
use Rattle.guest_machine.proofs.Registers.{registers_are, value-with_registers}
use Rattle.guest_machine.proofs.hart.execute_for.Goals as goal

pub returns-clause-effect : goal.returns-clause-effect
returns-clause-effect c =
    let harts = c.args.harts.now.list in
    let here : value_of harts c.args.tid ≡ Some c.unwrap-cpu.result.now = sym c.get_mut.ensures.found ∙ ap option_copied_mut c.unwrap-cpu.ensures in
    let before : registers_of harts c.args.tid ≡ c.unwrap-cpu.result.now = registers_are harts c.args.tid c.unwrap-cpu.result.now here in
    let after : registers_of (with_registers harts c.args.tid c.execute-outcome.new.cpu) c.args.tid ≡ c.execute-outcome.new.cpu =
    registers_are (with_registers harts c.args.tid c.execute-outcome.new.cpu) c.args.tid c.execute-outcome.new.cpu (value-with_registers harts c.args.tid c.execute-outcome.new.cpu c.requires.lives)
    in
    ap (λ (r : Registers). (c.execute-outcome.result, record { registers = r; memory = memory_of c.execute-outcome.new.memory; held = reserved_by c.execute-outcome.new.held })) after
    ∙ c.execute-outcome.ensures.effect
    ∙ ap (λ (r : Registers). effect c.args.tid c.args.i (record { registers = r; memory = memory_of c.args.memory.now; held = reserved_by c.args.held.now })) (sym before)

pub returns-clause-harts : goal.returns-clause-harts
returns-clause-harts c =
    let harts = c.args.harts.now.list in
    ap (λ (r : Registers). with_registers harts c.args.tid r)
    (sym (registers_are (with_registers harts c.args.tid c.execute-outcome.new.cpu) c.args.tid c.execute-outcome.new.cpu (value-with_registers harts c.args.tid c.execute-outcome.new.cpu c.requires.lives)))

pub returns-clause-lives : goal.returns-clause-lives
returns-clause-lives c = ap is_some (value-with_registers c.args.harts.now.list c.args.tid c.execute-outcome.new.cpu c.requires.lives)

pub returns-clause-pc : goal.returns-clause-pc
returns-clause-pc c =
    let harts = c.args.harts.now.list in
    ap (λ (r : Registers). r.pc)
    (c.cpu.view_is ∙ sym (registers_are (with_registers harts c.args.tid c.execute-outcome.new.cpu) c.args.tid c.execute-outcome.new.cpu (value-with_registers harts c.args.tid c.execute-outcome.new.cpu c.requires.lives)))
