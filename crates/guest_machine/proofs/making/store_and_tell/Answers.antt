use Rattle.std.proofs.Common.{subst, sym}
use Rattle.guest_machine.specs.Private.Making.{MakesStore}
use Rattle.guest_machine.proofs.MadeSteps.{makes_store, may_tell_store, stops_store}
use Rattle.guest_machine.proofs.making.store_and_tell.Goals as goal

pub observe_words_written-requires-clause-may : goal.observe_words_written-requires-clause-may
observe_words_written-requires-clause-may g c =
    let old = c.args.observer.now in
    may_tell_store g.W.Observer.stands (g.W.Observer.fits old) (g.W.Observer.fits_closed old) (g.W.Observer.steps_fit old) c.args.tid c.args.steps
    c.args.kind c.args.at c.args.n c.args.memory.now c.args.held.now c.store_words.new.memory c.store_words.new.held old _ _ c.in-Ok.ensures.went c.requires.may

pub returns-in-Ok-clause-made : goal.returns-in-Ok-clause-made
returns-in-Ok-clause-made g c =
    let old = c.args.observer.now in
    subst (MakesStore g.W.Observer.stands (g.W.Observer.fits old) c.args.tid c.args.steps c.args.kind c.args.at c.args.n c.args.memory.now c.args.held.now old
    c.store_words.new.memory c.store_words.new.held c.observe_words_written.new.observer) (sym c.made_by.ensures)
    (makes_store g.W.Observer.stands (g.W.Observer.fits old) (g.W.Observer.fits_closed old) (g.W.Observer.steps_fit old) c.args.tid c.args.steps
    c.args.kind c.args.at c.args.n c.args.memory.now c.args.held.now c.store_words.new.memory c.store_words.new.held old _ _ c.in-Ok.ensures.went
    c.observe_words_written.new.observer c.observe_words_written.result c.observe_words_written.ensures.observed)

pub returns-in-Err-clause-made : goal.returns-in-Err-clause-made
returns-in-Err-clause-made g c =
    let old = c.args.observer.now in
    stops_store g.W.Observer.stands (g.W.Observer.fits old) (g.W.Observer.fits_closed old) (g.W.Observer.steps_fit old) c.args.tid c.args.steps
    c.args.kind c.args.at c.args.n c.args.memory.now c.args.held.now c.store_words.new.memory c.store_words.new.held old _ c.in-Err.ensures.fault
