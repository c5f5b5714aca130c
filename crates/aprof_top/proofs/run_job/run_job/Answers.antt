use Rattle.std.proofs.lemmas.Result.{err_from_is_err_and}
use Rattle.command_line.specs.Options.Analysis.{Run}
use Rattle.command_line.specs.Read.{guest_in, run_in}
use Rattle.guest_run.specs.Output.{sinks}
use Rattle.aprof_top.specs.Outcome.{follows_to}
use Rattle.aprof_top.proofs.GuestCommands.{JobRuns-given_up, JobRuns-stored, seen_of}
use Rattle.aprof_top.proofs.run_job.run_job.Goals as goal

pub returns-in_err-run : goal.returns-in_err-run
returns-in_err-run g c =
    let p = err_from_is_err_and c.from_residual.result c.from_residual.ensures.1 in
    rw (p.1, p.2) (JobRuns-given_up (guest_in c.args.guest.now) c.args.path.now (Run (run_in c.args.options.now)) c.args.prepared
    (g.F.Files.state c.args.files.now) (g.O.Sink.state c.args.out.now) (g.E.Sink.state c.args.err.now)
    (sinks (g.O.Sink.state c.profile_image.new.out) (g.E.Sink.state c.profile_image.new.err)) c.in_err-run.field-0.0 c.in_err-run.ensures)

pub returns : goal.returns
returns g c =
    let guest = guest_in c.args.guest.now in
    let analysis = Run (run_in c.args.options.now) in
    let whole = c.in_ok-run.ensures.2 in
    JobRuns-stored guest c.args.path.now analysis c.args.prepared
    (g.F.Files.state c.args.files.now) (g.O.Sink.state c.args.out.now) (g.E.Sink.state c.args.err.now)
    (sinks (g.O.Sink.state c.profile_image.new.out) (g.E.Sink.state c.profile_image.new.err))
    c.in_ok-run.ensures.0 c.in_ok-run.ensures.1 (g.F.Files.state c.deliver_run.new.files) (g.E.Sink.state c.deliver_run.new.err) c.deliver_run.result
    (c.deliver_run.ensures (seen_of (follows_to analysis) guest c.args.prepared) whole)
