use Rattle.std.proofs.Common.{ControlFlow, Err, Ok, ℕ, ◌+◌, subst, ◌∙◌, arith}
use Rattle.std.proofs.lemmas.Result.{err_from_is_err_and}
use Rattle.guest_words.specs.declared.endings.Finish.TheVariants.{Budget}
use Rattle.guest_machine.specs.Kept.{machine_of}
use Rattle.guest_run.specs.Private.Going.{IsCounted, TurnEnds, standing_of}
use Rattle.guest_words.specs.declared.endings.Finish.{Finish}
use Rattle.guest_run.specs.Machine.{guest}
use Rattle.guest_run.specs.Output.{sinks}
use Rattle.guest_run.specs.ObservedRun.{first_past, observed_run}
use Rattle.guest_run.specs.Run.{run, start}
use Rattle.guest_run.proofs.Ends.{ends_over, ends_spent, not_begun, remains_first, remains_same, turn_same}
use Rattle.guest_run.proofs.run.run_guest.Goals as goal

pub returns-in_err-observe_start-clause-ends : goal.returns-in_err-observe_start-clause-ends
returns-in_err-observe_start-clause-ends g c =
    let p = err_from_is_err_and c.from_residual.result c.from_residual.ensures.1 in
    let whole = observed_run (g.W.Observer.fits c.args.observer.now) (first_past c.args.machine.entry) (run guest c.args.turns c.args.budget (machine_of c.args.machine)) in
    rw (p.1, p.2) (not_begun whole (sinks (g.O.Sink.state c.args.out.now) (g.E.Sink.state c.args.err.now)))

pub returns-in_err-runner-clause-ends : goal.returns-in_err-runner-clause-ends
returns-in_err-runner-clause-ends g c =
    let p = err_from_is_err_and c.from_residual-in_err-runner.result c.from_residual-in_err-runner.ensures.1 in
    let whole = observed_run (g.W.Observer.fits c.args.observer.now) (first_past c.args.machine.entry) (run guest c.args.turns c.args.budget (machine_of c.args.machine)) in
    rw (p.1, p.2) (not_begun whole (sinks (g.O.Sink.state c.args.out.now) (g.E.Sink.state c.args.err.now)))

pub run-init : goal.run-init
run-init g c = record {
  remains = remains_first g.W.Observer.stands (g.W.Observer.fits c.args.observer.now) c.args.machine c.args.turns
      (sinks (g.O.Sink.state c.args.out.now) (g.E.Sink.state c.args.err.now)) c.in_ok-runner.runner c.observe_start.new.observer c.requires.begins c.in_ok-runner.ensures
      (subst (λ entry. g.W.Observer.stands c.observe_start.new.observer (first_past entry)) c.entry.ensures c.in_ok-observe_start.ensures.stands) c.requires.first;
  same = c.in_ok-observe_start.ensures.same;
  most = omega arith;
}

pub returns-in_err-made-clause-ends : goal.returns-in_err-made-clause-ends
returns-in_err-made-clause-ends g c =
    let p = err_from_is_err_and c.from_residual-in_err-made.result c.from_residual-in_err-made.ensures.1 in
    let begin = start c.args.turns (machine_of c.args.machine) in
    let first = first_past c.args.machine.entry in
    let before = sinks (g.O.Sink.state c.args.out.now) (g.E.Sink.state c.args.err.now) in
    let now = sinks (g.O.Sink.state c.run.out) (g.E.Sink.state c.run.err) in
    let after = sinks (g.O.Sink.state c.take_turn.new.out) (g.E.Sink.state c.take_turn.new.err) in
    let fits = g.W.Observer.fits c.args.observer.now in
    rw (p.1, p.2) (turn_same g.W.Observer.stands fits (g.W.Observer.fits c.run.observer) c.run.invariant.same first begin before c.args.budget
    (standing_of c.take_turn.new.self) c.take_turn.new.observer after (Err c.in_err-made.field-0.0)
    (c.in_err-made.ensures.ends first begin before
    (remains_same g.W.Observer.stands fits (g.W.Observer.fits c.run.observer) c.run.invariant.same first begin before c.run.count (standing_of c.run.runner) c.run.observer now c.run.invariant.remains)))

pub returns-in-Break-clause-ends : goal.returns-in-Break-clause-ends
returns-in-Break-clause-ends g c =
    let begin = start c.args.turns (machine_of c.args.machine) in
    let first = first_past c.args.machine.entry in
    let before = sinks (g.O.Sink.state c.args.out.now) (g.E.Sink.state c.args.err.now) in
    let now = sinks (g.O.Sink.state c.run.out) (g.E.Sink.state c.run.err) in
    let after = sinks (g.O.Sink.state c.take_turn.new.out) (g.E.Sink.state c.take_turn.new.err) in
    let fits = g.W.Observer.fits c.args.observer.now in
    let ends = turn_same g.W.Observer.stands fits (g.W.Observer.fits c.run.observer) c.run.invariant.same first begin before c.args.budget
    (standing_of c.take_turn.new.self) c.take_turn.new.observer after (Ok c.in_ok-made.field-0)
    (c.in_ok-made.ensures.ends first begin before
    (remains_same g.W.Observer.stands fits (g.W.Observer.fits c.run.observer) c.run.invariant.same first begin before c.run.count (standing_of c.run.runner) c.run.observer now c.run.invariant.remains)) in
    let over = subst (λ (t : ControlFlow Finish ℕ). TurnEnds g.W.Observer.stands fits first begin before c.args.budget (standing_of c.take_turn.new.self) c.take_turn.new.observer after (Ok t)) c.in-Break.is ends in
    ends_over g.W.Observer.stands _ before (standing_of c.take_turn.new.self) c.take_turn.new.observer after c.in-Break.finish over
    c.finish.result c.finish.ensures.ended c.finish.ensures.refused

pub run-preserved : goal.run-preserved
run-preserved g c =
    let begin = start c.args.turns (machine_of c.args.machine) in
    let first = first_past c.args.machine.entry in
    let before = sinks (g.O.Sink.state c.args.out.now) (g.E.Sink.state c.args.err.now) in
    let now = sinks (g.O.Sink.state c.run.out) (g.E.Sink.state c.run.err) in
    let after = sinks (g.O.Sink.state c.take_turn.new.out) (g.E.Sink.state c.take_turn.new.err) in
    let fits = g.W.Observer.fits c.args.observer.now in
    let ends = turn_same g.W.Observer.stands fits (g.W.Observer.fits c.run.observer) c.run.invariant.same first begin before c.args.budget
    (standing_of c.take_turn.new.self) c.take_turn.new.observer after (Ok c.in_ok-made.field-0)
    (c.in_ok-made.ensures.ends first begin before
    (remains_same g.W.Observer.stands fits (g.W.Observer.fits c.run.observer) c.run.invariant.same first begin before c.run.count (standing_of c.run.runner) c.run.observer now c.run.invariant.remains)) in
    let remains = subst (λ (t : ControlFlow Finish ℕ). TurnEnds g.W.Observer.stands fits first begin before c.args.budget (standing_of c.take_turn.new.self) c.take_turn.new.observer after (Ok t)) c.in-Continue.is ends in
    let counted = subst (λ (t : ControlFlow Finish ℕ). IsCounted (c.run.count + 1) c.args.budget (Ok t)) c.in-Continue.is c.in_ok-made.ensures.count in
    record {
      remains = remains;
      same = c.in_ok-made.ensures.same ∙ c.run.invariant.same;
      most = counted.1;
    }

pub returns-clause-ends : goal.returns-clause-ends
returns-clause-ends g c =
    let remains = c.run.invariant.remains in
    let now = sinks (g.O.Sink.state c.run.out) (g.E.Sink.state c.run.err) in
    ends_over g.W.Observer.stands _ (sinks (g.O.Sink.state c.args.out.now) (g.E.Sink.state c.args.err.now)) (standing_of c.run.runner) c.run.observer now Budget
    (ends_spent g.W.Observer.stands (g.W.Observer.fits c.args.observer.now) (first_past c.args.machine.entry) (start c.args.turns (machine_of c.args.machine))
    (sinks (g.O.Sink.state c.args.out.now) (g.E.Sink.state c.args.err.now)) c.run.count (standing_of c.run.runner) c.run.observer now remains
    (g.W.Observer.fits_closed c.args.observer.now) c.args.budget (omega (arith, c.run.invariant.most, c.run-test.false)))
    c.finish-2.result c.finish-2.ensures.ended c.finish-2.ensures.refused
