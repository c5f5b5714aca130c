use Rattle.std.proofs.Common.{subst, sym}
use Rattle.command_line.specs.Read.{asked_in}
use Rattle.aprof_top.specs.Outside.{outside}
use Rattle.aprof_top.specs.Private.Ending.{AskedEnds, ended}
use Rattle.aprof_top.specs.Private.Jobs.{ending_by}
use Rattle.aprof_top.specs.Private.Loading.{loaded_in}
use Rattle.aprof_top.proofs.Commands.{AskedEnds-done, AskedEnds-unloaded}
use Rattle.aprof_top.proofs.top.load_and_do.Goals as goal

pub returns-in-Ok : goal.returns-in-Ok
returns-in-Ok g c =
    let asked = asked_in c.args.command.now in
    let files = g.F.Files.state c.args.files.now in
    let mid = g.F.Files.state c.load.new.files in
    let out = g.O.Sink.state c.args.out.now in
    let err = g.E.Sink.state c.args.err.now in
    let after = outside (g.F.Files.state c.do_command-done.new.files) (g.O.Sink.state c.do_command-done.new.out) (g.E.Sink.state c.do_command-done.new.err) in
    subst (λ e. AskedEnds asked (outside files out err) after (ended e)) (sym c.ending_by.ensures)
    (AskedEnds-done asked files mid out err (loaded_in c.in-Ok.loaded) c.in-Ok.ensures after (ending_by c.do_command-done.result) c.do_command-done.ensures)

pub returns-in-Err : goal.returns-in-Err
returns-in-Err g c =
    AskedEnds-unloaded (asked_in c.args.command.now) (g.F.Files.state c.args.files.now) (g.F.Files.state c.load.new.files) (g.O.Sink.state c.args.out.now) (g.E.Sink.state c.args.err.now)
    c.in-Err.ending c.in-Err.ensures
