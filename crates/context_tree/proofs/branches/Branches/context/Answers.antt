use Rattle.std.proofs.Common.{ℕ, IfOk, List, subst}
use Rattle.std.proofs.Math.Logic.{∥∥₁_elim}
use Rattle.std.proofs.Props.{props}
use Rattle.context_tree.specs.Trees.{IsShown}
use Rattle.context_tree.proofs.Following.{as_many}
use Rattle.context_tree.proofs.Once.{linked_once}
use Rattle.context_tree.proofs.branches.Branches.context.Goals as goal

pub at-requires-clause-linked : goal.at-requires-clause-linked
at-requires-clause-linked c = ∥∥₁_elim c.requires.stands (linked_once c.args.self.now.places c.args.self.now.links) (λ p. p.now.links_are)

pub at-requires-clause-long : goal.at-requires-clause-long
at-requires-clause-long c = ∥∥₁_elim c.requires.stands (hlevel props) (λ p. as_many c.args.self.now p.past p.now)

pub returns : goal.returns
returns c = λ past ordered stands in_order.
    subst (λ (d : List ℕ). IfOk c.at.result (λ r. IsShown past d r.0 r.1 r.2.items)) (c.number_at.ensures.listed past ordered stands in_order) (c.at.ensures past stands)
