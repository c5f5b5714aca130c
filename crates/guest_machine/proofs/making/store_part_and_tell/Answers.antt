use Rattle.std.proofs.Common.{subst, sym}
use Rattle.guest_machine.specs.Private.Making.{MakesStore}
use Rattle.guest_machine.proofs.making.store_part_and_tell.Goals as goal

pub returns-in-Sb-clause-made : goal.returns-in-Sb-clause-made
returns-in-Sb-clause-made g c =
    let old = c.args.observer.now in
    subst (λ kind. MakesStore g.W.Observer.stands (g.W.Observer.fits old) c.args.tid c.args.steps kind c.args.at c.args.n c.args.memory.now c.args.held.now old
    c.store_and_tell.new.memory c.store_and_tell.new.held c.store_and_tell.new.observer c.store_and_tell.result) (sym c.in-Sb.is) c.store_and_tell.ensures.made

pub returns-in-Sh-clause-made : goal.returns-in-Sh-clause-made
returns-in-Sh-clause-made g c =
    let old = c.args.observer.now in
    subst (λ kind. MakesStore g.W.Observer.stands (g.W.Observer.fits old) c.args.tid c.args.steps kind c.args.at c.args.n c.args.memory.now c.args.held.now old
    c.store_and_tell-in-Sh.new.memory c.store_and_tell-in-Sh.new.held c.store_and_tell-in-Sh.new.observer c.store_and_tell-in-Sh.result) (sym c.in-Sh.is) c.store_and_tell-in-Sh.ensures.made

pub returns-in-Sw-clause-made : goal.returns-in-Sw-clause-made
returns-in-Sw-clause-made g c =
    let old = c.args.observer.now in
    subst (λ kind. MakesStore g.W.Observer.stands (g.W.Observer.fits old) c.args.tid c.args.steps kind c.args.at c.args.n c.args.memory.now c.args.held.now old
    c.store_and_tell-in-Sw.new.memory c.store_and_tell-in-Sw.new.held c.store_and_tell-in-Sw.new.observer c.store_and_tell-in-Sw.result) (sym c.in-Sw.is) c.store_and_tell-in-Sw.ensures.made
