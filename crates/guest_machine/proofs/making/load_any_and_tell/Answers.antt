use Rattle.std.proofs.Common.{subst, sym}
use Rattle.guest_machine.specs.Private.Making.{MakesLoad}
use Rattle.guest_machine.proofs.making.load_any_and_tell.Goals as goal

pub returns-in-Lw-clause-made : goal.returns-in-Lw-clause-made
returns-in-Lw-clause-made g c =
    let old = c.args.observer.now in
    subst (λ kind. MakesLoad g.W.Observer.stands (g.W.Observer.fits old) c.args.tid c.args.steps kind c.args.rd c.args.at c.args.memory.now c.args.cpu.now old
    c.load_word_and_tell.new.cpu c.load_word_and_tell.new.observer c.load_word_and_tell.result) (sym c.in-Lw.is) c.load_word_and_tell.ensures.made
