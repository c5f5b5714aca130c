use Rattle.std.proofs.lemmas.Result.{err_from_is_err_and}
use Rattle.aprof_top.proofs.Runs.{stops_whole}
use Rattle.aprof_top.proofs.cache_job.misses_by.Goals as goal

pub returns-in_err-report : goal.returns-in_err-report
returns-in_err-report g c =
    let p = err_from_is_err_and c.from_residual-in_err-report.result c.from_residual-in_err-report.ensures.1 in
    rw (p.1, p.2) (stops_whole _ _ _ _ c.in_ok-ended.ensures.0 c.in_ok-ended.ensures.1.output)
