use Rattle.std.proofs.lemmas.Result.{err_from_is_err_and}
use Rattle.command_line.specs.Options.Analysis.{Cache}
use Rattle.command_line.specs.Read.{guest_in}
use Rattle.guest_run.specs.Output.{sinks}
use Rattle.aprof_top.specs.Outcome.{follows_to}
use Rattle.aprof_top.proofs.GuestCommands.{JobRuns-given_up, JobRuns-stored, seen_of}
use Rattle.aprof_top.proofs.cache_job.cache_job.Goals as goal

pub returns-in_err-report : goal.returns-in_err-report
returns-in_err-report g c =
    let p = err_from_is_err_and c.from_residual.result c.from_residual.ensures.1 in
    rw (p.1, p.2) (JobRuns-given_up (guest_in c.args.guest.now) c.args.path.now (Cache c.args.shape) c.args.prepared
    (g.F.Files.state c.args.files.now) (g.O.Sink.state c.args.out.now) (g.E.Sink.state c.args.err.now)
    (sinks (g.O.Sink.state c.count_misses.new.out) (g.E.Sink.state c.count_misses.new.err)) c.in_err-report.field-0.0 c.in_err-report.ensures)

pub returns : goal.returns
returns g c =
    let guest = guest_in c.args.guest.now in
    let analysis = Cache c.args.shape in
    let prepared = c.args.prepared in
    JobRuns-stored guest c.args.path.now analysis prepared
    (g.F.Files.state c.args.files.now) (g.O.Sink.state c.args.out.now) (g.E.Sink.state c.args.err.now)
    (sinks (g.O.Sink.state c.count_misses.new.out) (g.E.Sink.state c.count_misses.new.err))
    c.in_ok-report.ensures.0 c.in_ok-report.ensures.1 (g.F.Files.state c.deliver_misses.new.files) (g.E.Sink.state c.count_misses.new.err) c.deliver_misses.result
    (c.deliver_misses.ensures c.args.shape prepared.image (seen_of (follows_to analysis) guest prepared) c.in_ok-report.ensures.2 (g.E.Sink.state c.count_misses.new.err))
