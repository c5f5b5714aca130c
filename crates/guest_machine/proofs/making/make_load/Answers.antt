use Rattle.std.proofs.Common.{◌∙◌, ap₂, subst, sym, w32}
use Rattle.std.proofs.lemmas.Int.{to_z-of_z}
use Rattle.rv_exec.specs.Effects.{exec_state_of}
use Rattle.rv_exec.specs.Operations.{add_offset}
use Rattle.rv_exec.specs.Registers.{with_pc}
use Rattle.guest_machine.specs.Private.Making.{Makes}
use Rattle.guest_machine.proofs.making.make_load.Goals as goal

pub load_any_and_tell-made-requires-clause-may : goal.load_any_and_tell-made-requires-clause-may
load_any_and_tell-made-requires-clause-may g c = record {
  pc = c.args.pc.now;
  held = c.requires.may.0;
  base = c.args.base;
  offset = c.args.offset;
  known = c.requires.known;
  at_is = c.add_offset-at.ensures ∙ ap₂ add_offset c.value.ensures.value (to_z-of_z w32 c.args.offset c.ranges.offset);
  may = c.requires.may.1;
}

pub returns-clause-made : goal.returns-clause-made
returns-clause-made g c = λ held.
    let old = c.args.observer.now in
    subst (λ pc. Makes g.W.Observer.stands (g.W.Observer.fits old) c.args.tid c.args.steps
    (exec_state_of (with_pc c.args.pc.now c.args.cpu.now) c.args.memory.now held) old
    (exec_state_of (with_pc pc c.load_any_and_tell-made.new.cpu) c.args.memory.now held) c.load_any_and_tell-made.new.observer c.load_any_and_tell-made.result)
    (sym c.go_behind.ensures)
    (c.load_any_and_tell-made.ensures.made c.args.pc.now held c.args.base c.args.offset c.requires.known
    (c.add_offset-at.ensures ∙ ap₂ add_offset c.value.ensures.value (to_z-of_z w32 c.args.offset c.ranges.offset)))
