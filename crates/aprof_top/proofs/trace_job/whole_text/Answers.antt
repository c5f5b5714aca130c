use Rattle.std.proofs.Common.{subst, sym, ◌∙◌}
use Rattle.trace_file.specs.TraceText.{IsRising}
use Rattle.aprof_top.proofs.Recorded.{begun_rise}
use Rattle.aprof_top.proofs.trace_job.whole_text.Goals as goal

pub finish-requires-clause-rising : goal.finish-requires-clause-rising
finish-requires-clause-rising c =
    subst IsRising (sym (c.as_slice.ensures.value ∙ c.in_ok-names.ensures)) (begun_rise c.args.image.now c.args.text.entries.keys c.requires.text.0 c.requires.text.1.1)
