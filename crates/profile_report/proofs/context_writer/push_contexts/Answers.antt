use Rattle.std.proofs.Common.{◌≡◌, ◌∙◌, ◌++◌, ℕ, List, subst, sym}
use Rattle.std.specs.Prelude.{OnOk}
use Rattle.std.specs.List.{flat_map}
use Rattle.std.proofs.lemmas.Result.{IfOk-at_ok}
use Rattle.profile_report.specs.ContextText.{context_text}
use Rattle.profile_report.proofs.Texts.{passed}
use Rattle.context_tree.specs.Contexts.{contexts}
use Rattle.context_tree.proofs.Listed.{as_long}
use Rattle.profile_report.proofs.ToldContexts.{whole_text}
use Rattle.profile_report.proofs.context_writer.push_contexts.Goals as goal

pub returns-clause-text : goal.returns-clause-text
returns-clause-text c = λ past ordered stands in_order.
    let each = IfOk-at_ok _ c.in_ok-or_cut_back.was
    (passed _ _ (c.extend_from_slice.new.self.items ++ flat_map (context_text past) ordered) c.push_each.new.text.items c.or_cut_back.new.text.items c.or_cut_back.ensures.same c.or_cut_back.ensures.ok
    (c.push_each.ensures.ok past ordered stands in_order))
    in
    passed _ _ _ c.push_number_line.new.text.items c.or_cut_back-2.new.text.items c.or_cut_back-2.ensures.same c.or_cut_back-2.ensures.ok
    (subst (λ (us : List ℕ). OnOk c.push_number_line.result (c.push_number_line.new.text.items ≡ us))
    (whole_text past ordered c.args.text.now.items _ _ c.contexts.result c.in_ok-extend_from_slice.ensures.items each
    (c.contexts.ensures.stands past stands ∙ sym (as_long (contexts past) ordered in_order)))
    c.push_number_line.ensures.ok)
