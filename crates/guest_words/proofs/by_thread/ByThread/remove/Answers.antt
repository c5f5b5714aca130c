use Rattle.std.proofs.Common.{◌≡◌, ◌∙◌, ℕ, List, ap, sym, subst, rules, not}
use Rattle.std.specs.Prelude.{◌==◌}
use Rattle.std.proofs.lemmas.Fn.{filter_same}
use Rattle.guest_words.specs.ByThread.{IsRising, Table, numbers, without_thread}
use Rattle.guest_words.proofs.ThreadTables.{rising_without}
use Rattle.guest_words.proofs.by_thread.ByThread.remove.Goals as goal

pub invariant_of-self : goal.invariant_of-self
invariant_of-self g c =
    let items = c.self.inside.entries.items in
    let left : c.retain.new.self.items ≡ without_thread items c.args.tid = filter_same _ (λ x. not (x.0 == c.args.tid)) _ (λ x b f' k. search rules) _ _ c.retain.ensures.filtered in
    subst (λ (xs : List (ℕ × g.row.T.Denot)). IsRising (numbers xs)) (sym left) (rising_without items c.args.tid c.self.invariant)

pub returns-clause-list : goal.returns-clause-list
returns-clause-list g c =
    let list_is : c.self.inside.entries.items ≡ c.args.self.now.list = ap (λ (t : Table g.row.T.Denot). t.list) c.self.view_is in
    filter_same _ (λ x. not (x.0 == c.args.tid)) _ (λ x b f' k. search rules) _ _ c.retain.ensures.filtered ∙ ap (λ (xs : List (ℕ × g.row.T.Denot)). without_thread xs c.args.tid) list_is
