use Rattle.std.proofs.Common.{map, string_bytes, subst}
use Rattle.aprof_top.specs.Private.Ending.{end_of, ended, of_command}
use Rattle.aprof_top.specs.LastText.{LastText}
use Rattle.aprof_top.specs.Outside.{outside}
use Rattle.aprof_top.proofs.Commands.{Reaches-unread}
use Rattle.aprof_top.proofs.top.answer.Goals as goal

pub returns-in-Ok : goal.returns-in-Ok
returns-in-Ok g c = (
  end_of c.load_and_do-ending.result,
  record {
    err = g.E.Sink.state c.load_and_do-ending.new.err;
    reached = c.load_and_do-ending.ensures (map string_bytes c.args.words.now) c.in-Ok.ensures.asked;
    told = c.tell.ensures;
  },
)

pub returns-in-Err : goal.returns-in-Err
returns-in-Err g c =
    let words = map string_bytes c.args.words.now in
    let error = c.in-Err.error in
    let files = g.F.Files.state c.args.files.now in
    let out = g.O.Sink.state c.args.out.now in
    let err = g.E.Sink.state c.args.err.now in
    let last = g.E.Sink.state c.tell-in-Err.new.err in (
      ended (of_command error),
      record {
        err = err;
        reached = Reaches-unread words error (outside files out err) c.in-Err.ensures.refused c.in-Err.ensures.zero;
        told = subst (λ ending. LastText (ended ending) c.tell-in-Err.result err last) c.from.ensures c.tell-in-Err.ensures;
      },
    )
