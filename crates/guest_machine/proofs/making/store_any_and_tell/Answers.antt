use Rattle.std.proofs.Common.{subst, sym}
use Rattle.guest_machine.specs.Private.Making.{MakesStore}
use Rattle.guest_machine.proofs.making.store_any_and_tell.Goals as goal

pub returns-in-Sw-clause-made : goal.returns-in-Sw-clause-made
returns-in-Sw-clause-made g c =
    let old = c.args.observer.now in
    subst (λ kind. MakesStore g.W.Observer.stands (g.W.Observer.fits old) c.args.tid c.args.steps kind c.args.at c.args.n c.args.memory.now c.args.held.now old
    c.store_word_and_tell.new.memory c.store_word_and_tell.new.held c.store_word_and_tell.new.observer c.store_word_and_tell.result) (sym c.in-Sw.is) c.store_word_and_tell.ensures.made
