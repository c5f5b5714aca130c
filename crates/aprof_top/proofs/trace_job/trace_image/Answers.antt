use Rattle.std.proofs.lemmas.Result.{err_from_is_err_and}
use Rattle.aprof_top.proofs.Runs.{formed_observed, stops_whole}
use Rattle.aprof_top.proofs.trace_job.trace_image.Goals as goal

pub into_text-requires : goal.into_text-requires
into_text-requires g c = record {
  past = _;
  now = c.in_ok-ended.ensures.1.past;
  formed = formed_observed _ _ _ _ _ _ c.requires.small_budget;
}

pub returns-in_err-text : goal.returns-in_err-text
returns-in_err-text g c =
    let p = err_from_is_err_and c.from_residual-in_err-text.result c.from_residual-in_err-text.ensures.1 in
    rw (p.1, p.2) (stops_whole _ _ _ _ c.in_ok-ended.ensures.0 c.in_ok-ended.ensures.1.output)
