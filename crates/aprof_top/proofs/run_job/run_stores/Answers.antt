use Rattle.std.proofs.Common.{◌∙◌, ℕ, List, [], ◌∷◌, ◌++◌, map, ap, ap₂}
use Rattle.std.proofs.lemmas.List.{map-append}
use Rattle.profile_report.specs.ReportText.{report_text}
use Rattle.aprof_top.specs.declared.delivery.Store.{Store}
use Rattle.aprof_top.specs.Private.Jobs.{store_of}
use Rattle.aprof_top.proofs.run_job.run_stores.Goals as goal

pub returns : goal.returns
returns c = λ most past are.
    let last : Store = record { path = c.args.path; bytes = c.in_ok-bytes.bytes } in
    ap (map store_of) c.in_ok-push.ensures.items
    ∙ map-append store_of c.in_ok-stores.stores.items (last ∷ [])
    ∙ ap₂ (λ (front : List (List ℕ × List ℕ)) (text : List ℕ). front ++ (c.args.path.now, text) ∷ []) c.in_ok-stores.ensures
    (c.in_ok-bytes.ensures ∙ ap report_text (c.in_ok-report.ensures most past are))
