use Rattle.std.proofs.Common.{subst}
use Rattle.command_line.specs.Read.{replay_in}
use Rattle.aprof_top.specs.Outcome.{IsReplay}
use Rattle.aprof_top.specs.Outside.{outside}
use Rattle.aprof_top.specs.Private.Jobs.{HandsOut, ending_by}
use Rattle.aprof_top.proofs.top.do_command.Goals as goal

pub returns-in-Replay : goal.returns-in-Replay
returns-in-Replay g c =
    let out = g.O.Sink.state c.args.out.now in
    let before = outside (g.F.Files.state c.args.files.now) out (g.E.Sink.state c.args.err.now) in
    let after = outside (g.F.Files.state c.replay_command.new.files) out (g.E.Sink.state c.replay_command.new.err) in
    rw c.in-Replay.is (subst (λ trace. HandsOut (IsReplay (replay_in c.in-Replay.command) trace) before after (ending_by c.replay_command.result)) c.as_slice.ensures.value (c.replay_command.ensures out))

pub returns-in-Demo : goal.returns-in-Demo
returns-in-Demo g c = rw c.in-Demo.is (c.show_demo.ensures (g.F.Files.state c.args.files.now) (g.E.Sink.state c.args.err.now))
