use Rattle.std.proofs.Common.{◌≡◌, ◌<◌, Err, length, subst}
use Rattle.std.proofs.lemmas.Result.{err_from_is_err_and}
use Rattle.host_io.specs.Sink.{PutEnds, appended}
use Rattle.aprof_top.specs.Outside.{outside}
use Rattle.aprof_top.proofs.Commands.{HandsOut-put, HandsOut-unput, HandsOut-unshown}
use Rattle.aprof_top.proofs.top.show_demo.Goals as goal

pub returns-in_err-summary : goal.returns-in_err-summary
returns-in_err-summary g c = λ files err.
    let p = err_from_is_err_and c.from_residual.result c.from_residual.ensures.1 in
    rw (p.1, p.2) (HandsOut-unshown c.args.number (outside files (g.O.Sink.state c.args.out.now) err) c.in_err-summary.field-0.0 c.in_err-summary.ensures.refused)

pub returns-in_err-put_all : goal.returns-in_err-put_all
returns-in_err-put_all g c = λ files err.
    let p = err_from_is_err_and c.from_residual-in_err-put_all.result c.from_residual-in_err-put_all.ensures.1 in
    let old = g.O.Sink.state c.args.out.now in
    let new = g.O.Sink.state c.put_all.new.sink in
    let e = c.in_err-put_all.field-0.0 in
    rw (p.1, p.2) (HandsOut-unput c.args.number c.in_ok-summary.summary.items files old new err c.in_ok-summary.ensures.summary e
    (subst (λ bytes. PutEnds bytes old new (Err e)) c.as_slice.ensures.value c.in_err-put_all.ensures.ends)
    (subst (λ bytes. 0 < length bytes) c.as_slice.ensures.value c.in_err-put_all.ensures.some))

pub returns : goal.returns
returns g c = λ files err.
    let old = g.O.Sink.state c.args.out.now in
    let new = g.O.Sink.state c.put_all.new.sink in
    HandsOut-put c.args.number c.in_ok-summary.summary.items files old new err c.in_ok-summary.ensures.summary
    (subst (λ bytes. new ≡ appended old bytes) c.as_slice.ensures.value c.in_ok-put_all.ensures.ends)
