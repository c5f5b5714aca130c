use Rattle.std.proofs.lemmas.Result.{err_from_is_err_and}
use Rattle.aprof_top.proofs.Runs.{stops_whole}
use Rattle.aprof_top.proofs.contexts_job.contexts_of_run.Goals as goal

pub returns-in_err-contexts : goal.returns-in_err-contexts
returns-in_err-contexts g c =
    let p = err_from_is_err_and c.from_residual-in_err-contexts.result c.from_residual-in_err-contexts.ensures.1 in
    rw (p.1, p.2) (stops_whole _ _ _ _ c.in_ok-run.ensures.0 c.in_ok-run.ensures.1)
