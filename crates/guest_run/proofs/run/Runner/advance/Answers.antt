use Rattle.std.proofs.Common.{refl}
use Rattle.std.proofs.lemmas.Result.{err_from_is_err_and}
use Rattle.guest_machine.specs.Kept.{machine_of}
use Rattle.guest_run.specs.declared.turns.CurrentTurn.{CurrentTurn}
use Rattle.guest_run.specs.Private.Going.{Standing, standing_of}
use Rattle.guest_run.specs.Output.{sinks}
use Rattle.guest_run.proofs.Advances.{gives_up, goes_over, goes_turn, may_take, over_moved, over_stopped, step_failed}
use Rattle.guest_run.proofs.run.Runner.advance.Goals as goal

pub returns-in-Stops-clause-advances : goal.returns-in-Stops-clause-advances
returns-in-Stops-clause-advances g c = λ first start moves before going room put.
    let new : Standing = record { state = machine_of c.choose.new.machine; turn = c.choose.new.self; recorder = c.args.self.now.recorder } in
    over_stopped g.W.Observer.stands (g.W.Observer.fits c.args.observer.now) (g.W.Observer.fits_closed c.args.observer.now) first start moves before
    (standing_of c.args.self.now) c.args.observer.now going (sinks (g.O.Sink.state c.args.out.now) (g.E.Sink.state c.args.err.now)) put
    (machine_of c.choose.new.machine) c.choose.new.self c.in-Stops.finish c.in-Stops.ensures.chosen new refl

pub returns-in_err-add-clause-advances : goal.returns-in_err-add-clause-advances
returns-in_err-add-clause-advances g c = λ first start moves before going room put.
    let p = err_from_is_err_and c.from_residual.result c.from_residual.ensures.1 in
    rw (p.1, p.2) (gives_up g.W.Observer.stands (g.W.Observer.fits c.args.observer.now) (g.W.Observer.fits_closed c.args.observer.now) first start moves before
    (standing_of c.args.self.now) c.args.observer.now going (sinks (g.O.Sink.state c.args.out.now) (g.E.Sink.state c.args.err.now)) put)

pub step-requires-clause-next : goal.step-requires-clause-next
step-requires-clause-next g c =
    may_take g.W.Observer.stands (g.W.Observer.fits c.args.observer.now) c.requires.first c.requires.start c.requires.moves (standing_of c.args.self.now) c.args.observer.now
    c.requires.going c.requires.room (machine_of c.choose.new.machine) c.in-Moves.ensures.kept c.choose.new.self.tid (c.in-Moves.ensures.way c.in-Moves.opens refl).able

pub returns-in_err-finish-clause-advances : goal.returns-in_err-finish-clause-advances
returns-in_err-finish-clause-advances g c = λ first start moves before going room put.
    let p = err_from_is_err_and c.from_residual-in_err-finish.result c.from_residual-in_err-finish.ensures.1 in
    rw (p.1, p.2) (step_failed g.W.Observer.stands (g.W.Observer.fits c.args.observer.now) (g.W.Observer.fits_closed c.args.observer.now) first start moves before
    (standing_of c.args.self.now) c.args.observer.now going (sinks (g.O.Sink.state c.args.out.now) (g.E.Sink.state c.args.err.now)) put
    (machine_of c.choose.new.machine) c.in-Moves.ensures.kept c.choose.new.self c.in-Moves.opens c.in-Moves.ensures.chosen (c.in-Moves.ensures.way c.in-Moves.opens refl)
    (record { state = machine_of c.step.new.self.machine; turn = c.choose.new.self; recorder = c.add.new.self }) c.step.new.observer
    (sinks (g.O.Sink.state c.step.new.out) (g.E.Sink.state c.step.new.err)) c.in_err-finish.field-0.0 c.in_err-finish.ensures.ends)

pub returns-in-Ends-clause-advances : goal.returns-in-Ends-clause-advances
returns-in-Ends-clause-advances g c = λ first start moves before going room put.
    let new : Standing = record { state = machine_of c.step.new.self.machine; turn = c.choose.new.self; recorder = c.add.new.self } in
    over_moved g.W.Observer.stands (g.W.Observer.fits c.args.observer.now) (g.W.Observer.fits_closed c.args.observer.now) first start moves before
    (standing_of c.args.self.now) c.args.observer.now going (sinks (g.O.Sink.state c.args.out.now) (g.E.Sink.state c.args.err.now)) put
    (machine_of c.choose.new.machine) c.in-Moves.ensures.kept c.choose.new.self c.in-Moves.opens c.in-Moves.ensures.chosen (c.in-Moves.ensures.way c.in-Moves.opens refl)
    c.step.new.observer new (sinks (g.O.Sink.state c.step.new.out) (g.E.Sink.state c.step.new.err)) c.in_ok-finish.field-0 c.in_ok-finish.ensures.ends c.in_ok-add.ensures.recorded
    c.in-Ends.finish c.in-Ends.is

pub returns-in-TurnOver-clause-advances : goal.returns-in-TurnOver-clause-advances
returns-in-TurnOver-clause-advances g c = λ first start moves before going room put.
    let at : CurrentTurn = record { scheduler = c.choose.new.self.scheduler; tid = c.choose.new.self.tid; left = 0 } in
    let new : Standing = record { state = machine_of c.step.new.self.machine; turn = at; recorder = c.add.new.self } in
    goes_over g.W.Observer.stands (g.W.Observer.fits c.args.observer.now) (g.W.Observer.fits_closed c.args.observer.now) first start moves before
    (standing_of c.args.self.now) c.args.observer.now going (sinks (g.O.Sink.state c.args.out.now) (g.E.Sink.state c.args.err.now)) put
    (machine_of c.choose.new.machine) c.in-Moves.ensures.kept c.choose.new.self c.in-Moves.opens c.in-Moves.ensures.chosen (c.in-Moves.ensures.way c.in-Moves.opens refl)
    c.step.new.observer new (sinks (g.O.Sink.state c.step.new.out) (g.E.Sink.state c.step.new.err)) c.in_ok-finish.field-0 c.in_ok-finish.ensures.ends c.in_ok-add.ensures.recorded
    room c.in_ok-add.ensures.made.1 c.in-TurnOver.is refl refl

pub returns-in-GoesOn-clause-advances : goal.returns-in-GoesOn-clause-advances
returns-in-GoesOn-clause-advances g c = λ first start moves before going room put.
    let at : CurrentTurn = record { scheduler = c.choose.new.self.scheduler; tid = c.choose.new.self.tid; left = c.saturating_sub-self.result } in
    let new : Standing = record { state = machine_of c.step.new.self.machine; turn = at; recorder = c.add.new.self } in
    goes_turn g.W.Observer.stands (g.W.Observer.fits c.args.observer.now) (g.W.Observer.fits_closed c.args.observer.now) first start moves before
    (standing_of c.args.self.now) c.args.observer.now going (sinks (g.O.Sink.state c.args.out.now) (g.E.Sink.state c.args.err.now)) put
    (machine_of c.choose.new.machine) c.in-Moves.ensures.kept c.choose.new.self c.in-Moves.opens c.in-Moves.ensures.chosen (c.in-Moves.ensures.way c.in-Moves.opens refl)
    c.step.new.observer new (sinks (g.O.Sink.state c.step.new.out) (g.E.Sink.state c.step.new.err)) c.in_ok-finish.field-0 c.in_ok-finish.ensures.ends c.in_ok-add.ensures.recorded
    room c.in_ok-add.ensures.made.1 c.in-GoesOn.is refl refl c.saturating_sub-self.ensures c.in_ok-add.ensures.made.0
