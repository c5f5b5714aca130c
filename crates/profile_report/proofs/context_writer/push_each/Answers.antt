use Rattle.std.proofs.Common.{◌≡◌, ◌∙◌, ◌++◌, ◌<◌, ◌≤◌, ◌+◌, [], ℕ, List, length, get_or, Option, refl, ap, sym, subst, arith}
use Rattle.std.specs.Prelude.{IfSome, Vec}
use Rattle.std.specs.declared.alloc.Global.{Global}
use Rattle.std.specs.List.{flat_map}
use Rattle.trace_model.specs.declared.event_kinds.Event.{Event}
use Rattle.context_tree.specs.Order.{IsInOrder}
use Rattle.context_tree.specs.Trees.{TreeStandsFor}
use Rattle.std.proofs.lemmas.List.{append-nil, take_all}
use Rattle.context_tree.specs.Contexts.{contexts}
use Rattle.context_tree.specs.Numbers.{numbered}
use Rattle.context_tree.proofs.Listed.{as_long}
use Rattle.profile_report.specs.ContextText.{context_text}
use Rattle.guest_words.specs.Texts.{KeepsOn}
use Rattle.guest_words.proofs.Texts.{keeps_further, keeps_same}
use Rattle.profile_report.proofs.ToldContexts.{StandsAt, none_some, same_context, stands_first, stands_next, told_more}
use Rattle.profile_report.proofs.context_writer.push_each.Goals as goal
use Rattle.profile_report.proofs.context_writer.push_each.Goals.{in-Some+in_ok-push_context, in_default}

pub loop-init : goal.loop-init
loop-init c = record {
  one = λ n is. subst (λ (o : Option ℕ). IfSome o (λ m. (1 ≤ m) × (m ≤ length c.args.tree.now.branches.places))) is c.next_in_order-next.ensures.within;
  at = λ past ordered stands in_order some.
      stands_first c.args.tree.now.branches.places (contexts past) ordered stands.branches_are.contexts_are in_order c.next_in_order-next.result (c.next_in_order-next.ensures.follows past stands) some;
  text = λ past ordered stands in_order. sym (append-nil c.args.text.now.items);
  kept = keeps_same _ _ refl;
}

pub loop-preserved : goal.loop-preserved
loop-preserved c = elim c.match-next.branch [
  | in-Some+in_ok-push_context w ↦
      let n = w.in-Some.n in
      let here : (past : List Event) (ordered : List (List ℕ)) → TreeStandsFor c.args.tree.now past → IsInOrder (contexts past) ordered → c.loop.counter < length ordered →
      numbered (contexts past) w.in-Some.n ≡ get_or ordered c.loop.counter [] =
      λ past ordered stands in_order lt. same_context (contexts past) ordered c.loop.counter c.loop.next w.in-Some.n w.in-Some.is (c.loop.invariant.at past ordered stands in_order lt)
      in
      record {
        one = λ m is. subst (λ (o : Option ℕ). IfSome o (λ k. (1 ≤ k) × (k ≤ length c.args.tree.now.branches.places))) (sym w.next-is ∙ is) w.next_in_order-next-in-Some.ensures.within;
        at = λ past ordered stands in_order some.
            subst (λ (o : Option ℕ). StandsAt (contexts past) ordered (c.loop.counter + 1) o) (sym w.next-is)
            (stands_next (contexts past) ordered in_order c.loop.counter w.in-Some.n w.next_in_order-next-in-Some.result (here past ordered stands in_order (omega (arith, some)))
            (w.next_in_order-next-in-Some.ensures.follows past stands) some);
        text = λ past ordered stands in_order.
            let lt : c.loop.counter < length ordered = omega (arith, c.loop-test.true, c.contexts-end.ensures.stands past stands, as_long (contexts past) ordered in_order) in
            told_more past ordered c.args.text.now.items c.loop.text.items c.match-next.text.items c.loop.counter (numbered (contexts past) w.in-Some.n) lt (c.loop.invariant.text past ordered stands in_order)
            (here past ordered stands in_order lt) (ap (λ (v : Vec ℕ Global). v.items) w.text-is ∙ w.in_ok-push_context.ensures.ok past stands);
        kept = keeps_further _ _ _ c.loop.invariant.kept (subst (KeepsOn c.loop.text.items) (ap (λ (v : Vec ℕ Global). v.items) (sym w.text-is)) w.in_ok-push_context.ensures.kept);
      }
  | in_default w ↦
      record {
        one = λ m is. absurd (none_some c.loop.next m w.in_default.is (sym w.next-is ∙ is));
        at = λ past ordered stands in_order some.
            let st = c.loop.invariant.at past ordered stands in_order (omega (arith, some)) in absurd (none_some c.loop.next st.number w.in_default.is st.is);
        text = λ past ordered stands in_order.
            let lt : c.loop.counter < length ordered = omega (arith, c.loop-test.true, c.contexts-end.ensures.stands past stands, as_long (contexts past) ordered in_order) in
            let st = c.loop.invariant.at past ordered stands in_order lt in absurd (none_some c.loop.next st.number w.in_default.is st.is);
        kept = subst (KeepsOn c.args.text.now.items) (ap (λ (v : Vec ℕ Global). v.items) (sym w.text-is)) c.loop.invariant.kept;
      }
]

pub returns-clause-ok : goal.returns-clause-ok
returns-clause-ok c = λ past ordered stands in_order.
    let all : length ordered ≤ c.loop.counter = omega (arith, c.loop-test.false, c.contexts-end.ensures.stands past stands, as_long (contexts past) ordered in_order) in
    c.loop.invariant.text past ordered stands in_order ∙ ap (λ cs. c.args.text.now.items ++ flat_map (context_text past) cs) (take_all c.loop.counter ordered all)
