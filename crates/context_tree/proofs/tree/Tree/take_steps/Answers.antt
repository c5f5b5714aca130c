use Rattle.std.proofs.Common.{sym, subst}
use Rattle.trace_model.specs.Observing.{with_steps}
use Rattle.context_tree.specs.Trees.{KeptTree, MayStepOn, TreeStandsFor}
use Rattle.context_tree.proofs.Stepping.{stands_on, stays_light}
use Rattle.context_tree.proofs.tree.Tree.take_steps.Goals as goal

pub pass_steps-requires-clause-light : goal.pass_steps-requires-clause-light
pass_steps-requires-clause-light c =
    stays_light _ c.args.tid c.args.count c.requires.some (subst (λ (k : KeptTree). MayStepOn k c.args.tid c.args.count) (sym c.self.view_is) c.requires.next)

pub invariant_of-self : goal.invariant_of-self
invariant_of-self c =
    let may = subst (λ (k : KeptTree). MayStepOn k c.args.tid c.args.count) (sym c.self.view_is) c.requires.next in
    ∣ record {
      past = with_steps c.args.tid c.args.count may.past;
      now = stands_on _ c.args.tid c.args.count may c.pass_steps.new.self c.pass_steps.ensures.stands may.past may.now;
    } ∣₁

pub returns : goal.returns
returns c = λ past stands.
    let may = subst (λ (k : KeptTree). MayStepOn k c.args.tid c.args.count) (sym c.self.view_is) c.requires.next in
    stands_on _ c.args.tid c.args.count may c.pass_steps.new.self c.pass_steps.ensures.stands past
    (subst (λ (k : KeptTree). TreeStandsFor k past) (sym c.self.view_is) stands)
