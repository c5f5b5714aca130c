use Rattle.std.proofs.Common.{◌≡◌, ◌∙◌, ◌≤◌, [], length, get_or, ap, sym, subst, arith}
use Rattle.std.proofs.Math.Logic.{∥∥₁_elim}
use Rattle.std.proofs.Props.{props}
use Rattle.context_tree.specs.Contexts.{contexts}
use Rattle.context_tree.specs.Numbers.{numbered}
use Rattle.context_tree.specs.Order.{IsFollowedBy}
use Rattle.context_tree.proofs.Listed.{as_long, first_listed, follower_in, follower_listed, follower_some, some_entries, some_first}
use Rattle.context_tree.proofs.Once.{linked_once}
use Rattle.context_tree.proofs.branches.Branches.number_at.Goals as goal

pub next_in_order-requires-clause-linked : goal.next_in_order-requires-clause-linked
next_in_order-requires-clause-linked c = ∥∥₁_elim c.requires.stands (linked_once c.args.self.now.places c.args.self.now.links) (λ p. p.now.links_are)

pub next_in_order-requires-in-loop-clause-linked : goal.next_in_order-requires-in-loop-clause-linked
next_in_order-requires-in-loop-clause-linked c = ∥∥₁_elim c.requires.stands (linked_once c.args.self.now.places c.args.self.now.links) (λ p. p.now.links_are)

pub unwrap-n-requires : goal.unwrap-n-requires
unwrap-n-requires c =
    ∥∥₁_elim c.requires.stands (hlevel props) (λ p.
    some_first c.args.self.now.places (contexts p.past) p.now.contexts_are (omega (arith, c.requires.within, p.now.contexts_are.long)) c.next_in_order.result (c.next_in_order.ensures p.past p.now))

pub loop-init : goal.loop-init
loop-init c =
    let there : (1 ≤ c.unwrap-n.result) × (c.unwrap-n.result ≤ length c.args.self.now.places) =
    ∥∥₁_elim c.requires.stands (hlevel props) (λ p.
    let here = follower_some (contexts p.past) (numbered (contexts p.past) 0) c.next_in_order.result c.unwrap-n.result (c.next_in_order.ensures p.past p.now) c.unwrap-n.ensures in
    (here.0, omega (arith, here.1, p.now.contexts_are.long)))
    in
    record {
      some = there.0;
      within = there.1;
      listed = λ past ordered stands in_order.
          first_listed (contexts past) ordered in_order c.unwrap-n.result (omega (arith, as_long (contexts past) ordered in_order, c.requires.within, stands.contexts_are.long))
          (some_entries c.args.self.now.places (contexts past) stands.contexts_are)
          (subst (IsFollowedBy (contexts past) []) c.unwrap-n.ensures (c.next_in_order.ensures past stands));
    }

pub loop-preserved : goal.loop-preserved
loop-preserved c =
    let there : (1 ≤ c.unwrap_or-n.result) × (c.unwrap_or-n.result ≤ length c.args.self.now.places) =
    ∥∥₁_elim c.requires.stands (hlevel props) (λ p.
    let here =
    follower_in (contexts p.past) (numbered (contexts p.past) c.loop.n) c.next_in_order-in-loop.result c.loop.n c.loop.invariant.some (omega (arith, c.loop.invariant.within, p.now.contexts_are.long))
    (c.next_in_order-in-loop.ensures p.past p.now)
    in
    (subst (λ n. 1 ≤ n) (sym c.unwrap_or-n.ensures) here.0, subst (λ n. n ≤ length c.args.self.now.places) (sym c.unwrap_or-n.ensures) (omega (arith, here.1, p.now.contexts_are.long))))
    in
    record {
      some = there.0;
      within = there.1;
      listed = λ past ordered stands in_order.
          ap (numbered (contexts past)) c.unwrap_or-n.ensures
          ∙ follower_listed (contexts past) ordered in_order c.loop.counter c.loop.n c.next_in_order-in-loop.result
          (omega (arith, c.loop-test.true, as_long (contexts past) ordered in_order, c.requires.within, stands.contexts_are.long)) (c.loop.invariant.listed past ordered stands in_order)
          (c.next_in_order-in-loop.ensures past stands);
    }

pub returns-clause-listed : goal.returns-clause-listed
returns-clause-listed c = λ past ordered stands in_order.
    let all : c.loop.counter ≡ c.args.i = omega (arith, c.loop-test.false, c.loop.auto.counter-end) in
    c.loop.invariant.listed past ordered stands in_order ∙ ap (λ j. get_or ordered j []) all
