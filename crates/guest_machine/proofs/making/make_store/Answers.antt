use Rattle.std.proofs.Common.{◌∙◌, ap₂, subst, sym, w32}
use Rattle.std.proofs.lemmas.Int.{to_z-of_z}
use Rattle.rv_exec.specs.Effects.{exec_state_of}
use Rattle.rv_exec.specs.Operations.{add_offset}
use Rattle.rv_exec.specs.Registers.{Registers}
use Rattle.guest_machine.specs.Private.Making.{Makes}
use Rattle.guest_machine.proofs.making.make_store.Goals as goal

pub store_any_and_tell-made-requires-clause-may : goal.store_any_and_tell-made-requires-clause-may
store_any_and_tell-made-requires-clause-may g c = record {
  r = c.args.cpu.now;
  from = c.args.value;
  base = c.args.base;
  offset = c.args.offset;
  known = c.requires.known;
  at_is = c.add_offset-at.ensures ∙ ap₂ add_offset c.value.ensures.value (to_z-of_z w32 c.args.offset c.ranges.offset);
  n_is = c.value-n.ensures.value;
  may = c.requires.may;
}

pub returns-clause-made : goal.returns-clause-made
returns-clause-made g c =
    let old = c.args.observer.now in
    subst (λ (s : Registers). Makes g.W.Observer.stands (g.W.Observer.fits old) c.args.tid c.args.steps
    (exec_state_of c.args.cpu.now c.args.memory.now c.args.held.now) old
    (exec_state_of s c.store_any_and_tell-made.new.memory c.store_any_and_tell-made.new.held) c.store_any_and_tell-made.new.observer c.store_any_and_tell-made.result)
    (sym c.advance_behind.ensures)
    (c.store_any_and_tell-made.ensures.made c.args.cpu.now c.args.value c.args.base c.args.offset c.requires.known
    (c.add_offset-at.ensures ∙ ap₂ add_offset c.value.ensures.value (to_z-of_z w32 c.args.offset c.ranges.offset)) c.value-n.ensures.value)
