use Rattle.std.proofs.lemmas.Result.{err_from_is_err_and}
use Rattle.aprof_top.proofs.Runs.{stops_whole}
use Rattle.aprof_top.proofs.profiled_run.profile_image.Goals as goal

pub returns-in_err-totals : goal.returns-in_err-totals
returns-in_err-totals g c =
    let p = err_from_is_err_and c.from_residual-in_err-totals.result c.from_residual-in_err-totals.ensures.1 in
    rw (p.1, p.2) (stops_whole _ _ _ _ c.in_ok-run.ensures.0 c.in_ok-run.ensures.1)
