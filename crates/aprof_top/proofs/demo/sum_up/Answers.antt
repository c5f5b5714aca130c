use Rattle.std.proofs.Common.{[], ◌∙◌, ap, arith, subst, sym}
use Rattle.stamps.specs.declared.width.StampBits.TheVariants.{B32}
use Rattle.stamps.specs.Widths.{greatest}
use Rattle.trace_model.specs.Depth.{is_within}
use Rattle.profile_report.specs.Reported.{Reported}
use Rattle.aprof_top.specs.Outcome.{demo_options}
use Rattle.aprof_top.specs.Summary.{summary_text}
use Rattle.aprof_top.specs.Private.Demos.{demo_seen}
use Rattle.aprof_top.specs.Private.Totals.{FitsTotals}
use Rattle.aprof_top.specs.Report.{report_of}
use Rattle.aprof_top.proofs.Runs.{light_observed}
use Rattle.aprof_top.proofs.Totals.{FitsTotals-past}
use Rattle.aprof_top.proofs.Demos.{demo_answer, demo_run}
use Rattle.aprof_top.proofs.demo.sum_up.Goals as goal

pub summary-requires : goal.summary-requires
summary-requires c =
    let image = c.args.image.now in
    let seen = demo_seen image in
    let light = light_observed (is_within (greatest B32)) demo_options [] image [] [] (omega arith) in
    subst (λ (r : Reported). FitsTotals r.routines) (sym (c.in_ok-report.ensures (greatest B32) seen.past c.in_ok-run.ensures.profiled.totals)) (FitsTotals-past image.names seen.past light)

pub returns-clause-summary : goal.returns-clause-summary
returns-clause-summary c =
    let image = c.args.image.now in
    let seen = demo_seen image in
    let whole = c.in_ok-run.ensures.profiled in
    let demo = c.requires in
    record {
      file = demo.file;
      is_demo = demo.is_demo;
      answered = demo_answer c.args.number image seen c.in_ok-text.text.items
          (c.in_ok-text.ensures ∙ ap (summary_text c.args.number) (c.in_ok-report.ensures (greatest B32) seen.past whole.totals ∙ ap (λ finish. report_of image.names finish seen.past) whole.finish))
          demo.file demo.image_is (demo_run demo.file image demo.image_is);
    }
