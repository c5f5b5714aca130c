use Rattle.std.proofs.Common.{subst, sym}
use Rattle.guest_machine.specs.Private.Making.{MakesLoad}
use Rattle.guest_machine.proofs.making.load_part_and_tell.Goals as goal

pub returns-in-Lb-clause-made : goal.returns-in-Lb-clause-made
returns-in-Lb-clause-made g c =
    let old = c.args.observer.now in
    subst (λ kind. MakesLoad g.W.Observer.stands (g.W.Observer.fits old) c.args.tid c.args.steps kind c.args.rd c.args.at c.args.memory.now c.args.cpu.now old
    c.load_and_tell.new.cpu c.load_and_tell.new.observer c.load_and_tell.result) (sym c.in-Lb.is) c.load_and_tell.ensures.made

pub returns-in-Lh-clause-made : goal.returns-in-Lh-clause-made
returns-in-Lh-clause-made g c =
    let old = c.args.observer.now in
    subst (λ kind. MakesLoad g.W.Observer.stands (g.W.Observer.fits old) c.args.tid c.args.steps kind c.args.rd c.args.at c.args.memory.now c.args.cpu.now old
    c.load_and_tell-in-Lh.new.cpu c.load_and_tell-in-Lh.new.observer c.load_and_tell-in-Lh.result) (sym c.in-Lh.is) c.load_and_tell-in-Lh.ensures.made

pub returns-in-Lw-clause-made : goal.returns-in-Lw-clause-made
returns-in-Lw-clause-made g c =
    let old = c.args.observer.now in
    subst (λ kind. MakesLoad g.W.Observer.stands (g.W.Observer.fits old) c.args.tid c.args.steps kind c.args.rd c.args.at c.args.memory.now c.args.cpu.now old
    c.load_and_tell-in-Lw.new.cpu c.load_and_tell-in-Lw.new.observer c.load_and_tell-in-Lw.result) (sym c.in-Lw.is) c.load_and_tell-in-Lw.ensures.made

pub returns-in-Lbu-clause-made : goal.returns-in-Lbu-clause-made
returns-in-Lbu-clause-made g c =
    let old = c.args.observer.now in
    subst (λ kind. MakesLoad g.W.Observer.stands (g.W.Observer.fits old) c.args.tid c.args.steps kind c.args.rd c.args.at c.args.memory.now c.args.cpu.now old
    c.load_and_tell-in-Lbu.new.cpu c.load_and_tell-in-Lbu.new.observer c.load_and_tell-in-Lbu.result) (sym c.in-Lbu.is) c.load_and_tell-in-Lbu.ensures.made

pub returns-in-Lhu-clause-made : goal.returns-in-Lhu-clause-made
returns-in-Lhu-clause-made g c =
    let old = c.args.observer.now in
    subst (λ kind. MakesLoad g.W.Observer.stands (g.W.Observer.fits old) c.args.tid c.args.steps kind c.args.rd c.args.at c.args.memory.now c.args.cpu.now old
    c.load_and_tell-in-Lhu.new.cpu c.load_and_tell-in-Lhu.new.observer c.load_and_tell-in-Lhu.result) (sym c.in-Lhu.is) c.load_and_tell-in-Lhu.ensures.made
