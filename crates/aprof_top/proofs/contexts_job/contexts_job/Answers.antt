use Rattle.std.proofs.lemmas.Result.{err_from_is_err_and}
use Rattle.command_line.specs.Options.Analysis.{Contexts}
use Rattle.command_line.specs.Read.{guest_in}
use Rattle.guest_run.specs.Output.{sinks}
use Rattle.stamps.specs.Widths.{greatest}
use Rattle.aprof_top.specs.Outcome.{follows_to}
use Rattle.aprof_top.proofs.GuestCommands.{JobRuns-given_up, JobRuns-stored, seen_of}
use Rattle.aprof_top.proofs.contexts_job.contexts_job.Goals as goal

pub returns-in_err-run : goal.returns-in_err-run
returns-in_err-run g c =
    let p = err_from_is_err_and c.from_residual.result c.from_residual.ensures.1 in
    rw (p.1, p.2) (JobRuns-given_up (guest_in c.args.guest.now) c.args.path.now (Contexts c.args.bits) c.args.prepared
    (g.F.Files.state c.args.files.now) (g.O.Sink.state c.args.out.now) (g.E.Sink.state c.args.err.now)
    (sinks (g.O.Sink.state c.contexts_of_run.new.out) (g.E.Sink.state c.contexts_of_run.new.err)) c.in_err-run.field-0.0 c.in_err-run.ensures)

pub returns : goal.returns
returns g c =
    let guest = guest_in c.args.guest.now in
    let analysis = Contexts c.args.bits in
    let whole = c.in_ok-run.ensures.2 in
    JobRuns-stored guest c.args.path.now analysis c.args.prepared
    (g.F.Files.state c.args.files.now) (g.O.Sink.state c.args.out.now) (g.E.Sink.state c.args.err.now)
    (sinks (g.O.Sink.state c.contexts_of_run.new.out) (g.E.Sink.state c.contexts_of_run.new.err))
    c.in_ok-run.ensures.0 c.in_ok-run.ensures.1 (g.F.Files.state c.deliver_contexts.new.files) (g.E.Sink.state c.contexts_of_run.new.err) c.deliver_contexts.result
    (c.deliver_contexts.ensures c.args.bits (greatest c.args.bits) (seen_of (follows_to analysis) guest c.args.prepared) whole (g.E.Sink.state c.contexts_of_run.new.err))
