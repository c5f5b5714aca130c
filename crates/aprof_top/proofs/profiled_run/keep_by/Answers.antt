use Rattle.std.proofs.lemmas.Result.{err_from_is_err_and}
use Rattle.aprof_top.proofs.Runs.{formed_observed, stops_whole}
use Rattle.aprof_top.proofs.profiled_run.keep_by.Goals as goal

pub into_kept-requires : goal.into_kept-requires
into_kept-requires g c = record {
  past = _;
  now = c.in_ok-ended.ensures.1.past;
  formed = formed_observed _ _ _ _ _ _ c.requires.range.small_budget;
}

pub returns-in_err-kept : goal.returns-in_err-kept
returns-in_err-kept g c =
    let p = err_from_is_err_and c.from_residual-in_err-kept.result c.from_residual-in_err-kept.ensures.1 in
    rw (p.1, p.2) (stops_whole _ _ _ _ c.in_ok-ended.ensures.0 c.in_ok-ended.ensures.1.output)
