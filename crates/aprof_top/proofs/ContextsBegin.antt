-- What `contexts` stores begins with the report of the run.
use Rattle.std.proofs.Common.{◌≡◌, true, refl, sym, ap, ◌∙◌}
use Rattle.command_line.specs.Options.Analysis.{Contexts}
use Rattle.elf_image.specs.Reading.{image_of}
use Rattle.guest_run.specs.ObservedRun.{ObservedRun}
use Rattle.guest_run.specs.Run.{recording}
use Rattle.profile_report.specs.ContextText.{contexts_text}
use Rattle.context_tree.specs.Contexts as tree
use Rattle.context_tree.specs.Order.{in_order}
use Rattle.profile_report.specs.ReportText.{report_text}
use Rattle.aprof_top.specs.ContextReports.{can_be_numbered, contexts_report}
use Rattle.aprof_top.specs.Laws.{ContextsBeginWithTheReport}
use Rattle.aprof_top.specs.Loads.{guest_loads, loaded_of}
use Rattle.aprof_top.specs.Outcome.{Outcome, job_of, recording_stores, stage}
use Rattle.aprof_top.specs.Report.{report_of}
use Rattle.aprof_top.specs.Run.{run_of}
use Rattle.aprof_top.proofs.StoredRuns.{came_to, either_outcome, run_is, stored_some, stored_text}

pub contexts_begin : ContextsBeginWithTheReport
contexts_begin guest path options files bytes contexts ran is_contexts stored is_ran =
    let job = job_of guest path (Contexts options.bits) in
    let came = came_to job files contexts (stored_some contexts (λ none. absurd (cc (sym stored ∙ none)))) (stage (guest_loads guest) files) refl is_contexts in
    let loaded = loaded_of (guest_loads guest) files in
    let image = image_of loaded.image in
    let run : ObservedRun = run_of options.bits guest loaded came.turns in
    let text = stored_text run (can_be_numbered run.past) path bytes (contexts_report image run) (ap (λ (o : Outcome). o.stores) (sym came.answered) ∙ stored) in
    let is : contexts ≡ either_outcome run path (contexts_report image run) true = came.answered ∙ ap (either_outcome run path (contexts_report image run)) text.1 in
    let ran_is = run_is guest path options job.leaves files contexts came ran is_ran in
    record {
      earlier = recording_stores options.recording (recording run.moves);
      report = report_text (report_of image.names run.finish run.past);
      stored = ap (λ (o : Outcome). o.stores) ran_is;
      more = contexts_text run.past (in_order (tree.contexts run.past));
      begins = text.0;
      verdict = ap (λ (o : Outcome). o.verdict) is ∙ sym (ap (λ (o : Outcome). o.verdict) ran_is);
      output = ap (λ (o : Outcome). o.writes) is ∙ sym (ap (λ (o : Outcome). o.writes) ran_is);
    }
