use Rattle.std.proofs.Common.{◌≡◌, ◌++◌, ◌<◌, ◌≤◌, ℕ, List, length, take, Some}
use Rattle.std.specs.List.{flat_map}
use Rattle.trace_model.specs.declared.event_kinds.Event.{Event}
use Rattle.context_tree.specs.Contexts.{contexts}
use Rattle.context_tree.specs.Order.{IsInOrder}
use Rattle.context_tree.specs.Trees.{TreeStandsFor}
use Rattle.profile_report.specs.ContextText.{context_text}
use Rattle.guest_words.specs.Texts.{KeepsOn}
use Rattle.profile_report.proofs.ToldContexts.{StandsAt}
use Rattle.profile_report.proofs.context_writer.push_each.Given as goal

abbrev pub invariant-loop : goal.invariant-loop
invariant-loop l = record {
  one : (n : ℕ) → l.next ≡ Some n → (1 ≤ n) × (n ≤ length l.tree.branches.places);
  at : (past : List Event) (ordered : List (List ℕ)) → TreeStandsFor l.tree past → IsInOrder (contexts past) ordered → l.counter < length ordered → StandsAt (contexts past) ordered l.counter l.next;
  text : (past : List Event) (ordered : List (List ℕ)) → TreeStandsFor l.tree past → IsInOrder (contexts past) ordered →
      l.text.items ≡ l.initial.text.items ++ flat_map (context_text past) (take l.counter ordered);
  kept : KeepsOn l.initial.text.items l.text.items;
}
