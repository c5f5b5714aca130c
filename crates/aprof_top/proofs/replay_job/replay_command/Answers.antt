use Rattle.std.proofs.Common.{refl}
use Rattle.std.proofs.lemmas.Result.{err_from_is_err_and}
use Rattle.command_line.specs.Read.{replay_in}
use Rattle.aprof_top.specs.Outcome.{replay_outcome}
use Rattle.aprof_top.proofs.Replays.{HandsOut-refused, HandsOut-stored}
use Rattle.aprof_top.proofs.replay_job.replay_command.Goals as goal

pub returns-in_err-replayed : goal.returns-in_err-replayed
returns-in_err-replayed g c = λ out.
    let p = err_from_is_err_and c.from_residual.result c.from_residual.ensures.1 in
    let refused = c.in_err-replayed.ensures in
    rw (p.1, p.2) (HandsOut-refused (replay_in c.args.command.now) c.args.trace.now (g.F.Files.state c.args.files.now) out (g.E.Sink.state c.args.err.now)
    refused.0 c.in_err-replayed.field-0.0 refused.1)

pub deliver_replay-requires : goal.deliver_replay-requires
deliver_replay-requires g c = (c.args.trace.now, c.in_ok-replayed.ensures)

pub returns : goal.returns
returns g c = λ out.
    let options = replay_in c.args.command.now in
    let replayed = c.in_ok-replayed.replayed in
    let is = c.in_ok-replayed.ensures in
    HandsOut-stored options c.args.trace.now (g.F.Files.state c.args.files.now) out (g.E.Sink.state c.args.err.now)
    (replay_outcome options replayed.names.items replayed.finish is.past)
    (record { past = is.past; names = replayed.names.items; finish = replayed.finish; trace = is.trace; answered = refl }) tt refl
    (g.F.Files.state c.deliver_replay.new.files) (g.E.Sink.state c.deliver_replay.new.err) c.deliver_replay.result (c.deliver_replay.ensures c.args.trace.now is)
