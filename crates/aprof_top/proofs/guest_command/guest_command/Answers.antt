use Rattle.std.proofs.lemmas.Result.{err_from_is_err_and}
use Rattle.command_line.specs.Read.{analysis_in, guest_in}
use Rattle.aprof_top.specs.Private.Loading.{loaded_in}
use Rattle.aprof_top.specs.Outcome.{job_of}
use Rattle.aprof_top.specs.Outside.{outside}
use Rattle.aprof_top.proofs.Runs.{FilesRun-unprepared}
use Rattle.aprof_top.proofs.guest_command.guest_command.Goals as goal

pub returns-in_err-prepared : goal.returns-in_err-prepared
returns-in_err-prepared g c =
    let p = err_from_is_err_and c.from_residual.result c.from_residual.ensures.1 in
    let command = c.args.command.now in
    rw (p.1, p.2) (FilesRun-unprepared (job_of (guest_in command.guest) command.output.now (analysis_in command.analysis)) (loaded_in c.args.loaded)
    (outside (g.F.Files.state c.args.files.now) (g.O.Sink.state c.args.out.now) (g.E.Sink.state c.args.err.now))
    c.in_err-prepared.field-0.0 c.in_err-prepared.ensures)

pub returns : goal.returns
returns g c = c.run_prepared.ensures (loaded_in c.args.loaded) c.in_ok-prepared.ensures
