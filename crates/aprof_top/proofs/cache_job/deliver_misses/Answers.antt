use Rattle.std.proofs.Common.{List, ℕ, Some, ap, sym, ◌∙◌}
use Rattle.cache_profile.specs.ReportText.{Reported, cache_text}
use Rattle.aprof_top.specs.Private.Jobs.{desk}
use Rattle.aprof_top.specs.Outcome.{left_of, one_file}
use Rattle.command_line.specs.Options.Analysis.{Cache}
use Rattle.aprof_top.proofs.Recorded.{stored_left}
use Rattle.aprof_top.proofs.cache_job.deliver_misses.Goals as goal

pub returns : goal.returns
returns g c = λ shape image seen report err.
    stored_left seen (left_of c.args.path.now (Cache shape) image seen) c.args.path.now c.as_slice.result.now
    (ap (λ (text : List ℕ). Some (one_file c.args.path.now text)) (sym (c.as_slice.ensures.value ∙ c.in_ok-bytes.ensures ∙ ap cache_text report)))
    (desk (g.F.Files.state c.args.files.now) err) (desk (g.F.Files.state c.store_result.new.files) err) c.store_result.result
    (c.store_result.ensures seen (ap (λ (r : Reported). r.finish) (c.report.view_is ∙ report)) err)
