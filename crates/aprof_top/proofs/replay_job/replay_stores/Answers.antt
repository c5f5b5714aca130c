use Rattle.std.proofs.Common.{◌∙◌, ℕ, List, [], ◌∷◌, ◌++◌, map, ap, ap₂}
use Rattle.std.specs.Prelude.{if◌then◌else◌}
use Rattle.profile_report.specs.ReportText.{report_text}
use Rattle.guest_words.specs.declared.endings.Finish.TheVariants.{Deep}
use Rattle.stamps.specs.Widths.{greatest}
use Rattle.aprof_top.specs.declared.delivery.Store.{Store}
use Rattle.aprof_top.specs.Private.Jobs.{store_of}
use Rattle.aprof_top.specs.Outcome.{told_apart}
use Rattle.aprof_top.specs.Report.{report_of}
use Rattle.aprof_top.proofs.replay_job.replay_stores.Goals as goal

pub returns : goal.returns
returns c = λ bytes is.
    let last : Store = record { path = c.args.path; bytes = c.in_ok-bytes.bytes } in
    let past = told_apart c.args.bits is.past in
    let finish = c.told_finish-finish.ensures ∙ ap (λ whole. if whole then c.args.replayed.finish else Deep) is.whole in
    let report = c.in_ok-report.ensures (greatest c.args.bits) past is.totals in
    ap (map store_of) (c.in_ok-push.ensures.items ∙ ap (λ (front : List Store). front ++ last ∷ []) c.new-stores.ensures.items)
    ∙ ap (λ (text : List ℕ). (c.args.path.now, text) ∷ [])
    (c.in_ok-bytes.ensures ∙ ap report_text (report ∙ ap₂ (λ names end. report_of names end past) c.new-names.ensures finish))
