use Rattle.std.proofs.Common.{◌+◌, subst, sym}
use Rattle.std.proofs.lemmas.Result.{err_from_is_err_and}
use Rattle.command_line.specs.Options.Analysis.{Trace}
use Rattle.command_line.specs.Read.{guest_in}
use Rattle.guest_run.specs.Output.{sinks}
use Rattle.guest_run.proofs.Lines.{IsCounted, counted_line}
use Rattle.aprof_top.specs.Outcome.{follows_to}
use Rattle.aprof_top.proofs.GuestCommands.{JobRuns-given_up, JobRuns-stored, seen_of}
use Rattle.aprof_top.proofs.Runs.{counted_observed}
use Rattle.aprof_top.proofs.trace_job.trace_job.Goals as goal

pub returns-in_err-run : goal.returns-in_err-run
returns-in_err-run g c =
    let p = err_from_is_err_and c.from_residual.result c.from_residual.ensures.1 in
    rw (p.1, p.2) (JobRuns-given_up (guest_in c.args.guest.now) c.args.path.now Trace c.args.prepared
    (g.F.Files.state c.args.files.now) (g.O.Sink.state c.args.out.now) (g.E.Sink.state c.args.err.now)
    (sinks (g.O.Sink.state c.trace_image.new.out) (g.E.Sink.state c.trace_image.new.err)) c.in_err-run.field-0.0 c.in_err-run.ensures)

pub returns : goal.returns
returns g c =
    let guest = guest_in c.args.guest.now in
    let whole = c.in_ok-run.ensures.2 in
    JobRuns-stored guest c.args.path.now Trace c.args.prepared
    (g.F.Files.state c.args.files.now) (g.O.Sink.state c.args.out.now) (g.E.Sink.state c.args.err.now)
    (sinks (g.O.Sink.state c.trace_image.new.out) (g.E.Sink.state c.trace_image.new.err))
    c.in_ok-run.ensures.0 c.in_ok-run.ensures.1 (g.F.Files.state c.deliver_trace.new.files) (g.E.Sink.state c.trace_image.new.err) c.deliver_trace.result
    (c.deliver_trace.ensures (seen_of (follows_to Trace) guest c.args.prepared) whole (g.E.Sink.state c.trace_image.new.err))

pub deliver_trace-requires-clause-line : goal.deliver_trace-requires-clause-line
deliver_trace-requires-clause-line g c =
    let guest = guest_in c.args.guest.now in
    let prepared = c.args.prepared in
    counted_line (1 + guest.budget) _ (subst (IsCounted (1 + guest.budget)) (sym c.in_ok-run.ensures.2.finish)
    (counted_observed (follows_to Trace) guest prepared.files.schedule prepared.image prepared.files.inputs prepared.files.stdin.items))

pub deliver_trace-requires-clause-text : goal.deliver_trace-requires-clause-text
deliver_trace-requires-clause-text g c =
    ((seen_of (follows_to Trace) (guest_in c.args.guest.now) c.args.prepared).past, c.in_ok-run.ensures.2.text)
