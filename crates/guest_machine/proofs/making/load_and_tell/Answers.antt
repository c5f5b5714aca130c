use Rattle.std.proofs.Common.{subst, sym}
use Rattle.guest_machine.specs.Private.Making.{MakesLoad}
use Rattle.guest_machine.proofs.MadeSteps.{makes_load, may_tell_load, stops_load}
use Rattle.guest_machine.proofs.making.load_and_tell.Goals as goal

pub observe_words_read-requires-clause-may : goal.observe_words_read-requires-clause-may
observe_words_read-requires-clause-may g c =
    let old = c.args.observer.now in
    may_tell_load g.W.Observer.stands (g.W.Observer.fits old) (g.W.Observer.fits_closed old) (g.W.Observer.steps_fit old) c.args.tid c.args.steps
    c.args.kind c.args.rd c.args.at c.args.memory.now c.args.cpu.now c.load_words.new.cpu old _ _ c.in-Ok.ensures.went c.requires.may

pub returns-in-Ok-clause-made : goal.returns-in-Ok-clause-made
returns-in-Ok-clause-made g c =
    let old = c.args.observer.now in
    subst (MakesLoad g.W.Observer.stands (g.W.Observer.fits old) c.args.tid c.args.steps c.args.kind c.args.rd c.args.at c.args.memory.now c.args.cpu.now old
    c.load_words.new.cpu c.observe_words_read.new.observer) (sym c.made_by.ensures)
    (makes_load g.W.Observer.stands (g.W.Observer.fits old) (g.W.Observer.fits_closed old) (g.W.Observer.steps_fit old) c.args.tid c.args.steps
    c.args.kind c.args.rd c.args.at c.args.memory.now c.args.cpu.now c.load_words.new.cpu old _ _ c.in-Ok.ensures.went
    c.observe_words_read.new.observer c.observe_words_read.result c.observe_words_read.ensures.observed)

pub returns-in-Err-clause-made : goal.returns-in-Err-clause-made
returns-in-Err-clause-made g c =
    let old = c.args.observer.now in
    stops_load g.W.Observer.stands (g.W.Observer.fits old) (g.W.Observer.fits_closed old) (g.W.Observer.steps_fit old) c.args.tid c.args.steps
    c.args.kind c.args.rd c.args.at c.args.memory.now c.args.cpu.now c.load_words.new.cpu old _ c.in-Err.ensures.fault
