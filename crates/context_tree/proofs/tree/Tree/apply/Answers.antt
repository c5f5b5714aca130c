use Rattle.std.proofs.Common.{sym, subst}
use Rattle.context_tree.specs.Trees.{AreEnded, KeptTree, MayCome}
use Rattle.context_tree.proofs.Growing.{formed_next, goes_on, takes, whole}
use Rattle.context_tree.proofs.tree.Tree.apply.Goals as goal

pub apply-requires-clause-whole : goal.apply-requires-clause-whole
apply-requires-clause-whole c = whole _ c.self.invariant

pub apply-requires-clause-takes : goal.apply-requires-clause-takes
apply-requires-clause-takes c =
    takes _ c.args.e c.args.ends.now c.self.invariant (subst (λ (k : KeptTree). MayCome k c.args.e) (sym c.self.view_is) c.requires.next)
    (subst (λ (k : KeptTree). AreEnded k c.args.e c.args.ends.now) (sym c.self.view_is) c.requires.ends)

pub invariant_of-self-2 : goal.invariant_of-self-2
invariant_of-self-2 c =
    let may = subst (λ (k : KeptTree). MayCome k c.args.e) (sym c.self.view_is) c.requires.next in
    goes_on _ _ c.args.ends.now c.self.invariant c.args.e (subst (λ (k : KeptTree). AreEnded k c.args.e c.args.ends.now) (sym c.self.view_is) c.requires.ends)
    (λ past s are. record {
      branches_are = c.in_ok-apply.ensures.stands past s.branches_are are;
      progress_is = c.pass.ensures.stands past s.progress_is (formed_next _ past c.args.e s may);
    })
