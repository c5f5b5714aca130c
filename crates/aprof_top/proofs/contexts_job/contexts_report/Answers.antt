use Rattle.std.proofs.Common.{◌∙◌, ◌++◌, List, ℕ, ap}
use Rattle.profile_report.specs.ContextText.{contexts_text}
use Rattle.context_tree.specs.Contexts.{contexts}
use Rattle.context_tree.specs.Order.{in_order}
use Rattle.context_tree.proofs.InOrder.{have_order}
use Rattle.guest_words.specs.declared.endings.Finish.{Finish}
use Rattle.profile_report.specs.ReportText.{report_text}
use Rattle.aprof_top.specs.Report.{report_of}
use Rattle.aprof_top.proofs.contexts_job.contexts_report.Goals as goal

pub returns-clause-text : goal.returns-clause-text
returns-clause-text c = λ most seen are finish.
    let past = seen.past in
    let report = c.in_ok-report.ensures most past are.totals_are ∙ ap (λ (f : Finish). report_of c.args.image.now.names f past) finish in
    c.in_ok-push_contexts.ensures.text past (in_order (contexts past)) are.tree (have_order c.args.contexts.now.tree.branches.places (contexts past) are.tree.branches_are.contexts_are)
    ∙ ap (λ (front : List ℕ). front ++ contexts_text past (in_order (contexts past))) (c.in_ok-text.ensures ∙ ap report_text report)
