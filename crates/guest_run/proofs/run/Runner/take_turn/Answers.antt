use Rattle.std.proofs.Common.{Err, Ok, Option, refl, subst, ◌+◌, arith}
use Rattle.std.proofs.lemmas.Result.{err_from_is_err_and}
use Rattle.guest_words.specs.declared.endings.Finish.{Finish}
use Rattle.guest_run.specs.Private.Going.{Advances, standing_of}
use Rattle.guest_run.specs.Output.{sinks}
use Rattle.guest_run.proofs.Ends.{advances_by, ends_failed, next_by, over_by, remains_same, turn_same}
use Rattle.guest_run.proofs.run.Runner.take_turn.Goals as goal

pub returns-in_err-finish-clause-ends : goal.returns-in_err-finish-clause-ends
returns-in_err-finish-clause-ends g c = λ first start before begun.
    let p = err_from_is_err_and c.from_residual.result c.from_residual.ensures.1 in
    let remains = begun in
    let now = sinks (g.O.Sink.state c.args.out.now) (g.E.Sink.state c.args.err.now) in
    let after = sinks (g.O.Sink.state c.advance.new.out) (g.E.Sink.state c.advance.new.err) in
    let fits = g.W.Observer.fits c.args.observer.now in
    rw (p.1, p.2) (ends_failed g.W.Observer.stands fits first start before c.args.made (standing_of c.args.self.now) c.args.observer.now now remains
    c.args.budget c.requires.budget (standing_of c.advance.new.self) c.advance.new.observer after c.in_err-finish.field-0.0
    (advances_by g.W.Observer.stands fits first start before c.args.made (standing_of c.args.self.now) c.args.observer.now now remains
    (g.W.Observer.fits c.args.observer.now) refl (omega (arith, c.requires.budget, c.requires.limit))
    (standing_of c.advance.new.self) c.advance.new.observer after (Err c.in_err-finish.field-0.0) c.in_err-finish.ensures.advances))

pub returns-in-Some-clause-ends : goal.returns-in-Some-clause-ends
returns-in-Some-clause-ends g c = λ first start before begun.
    let remains = begun in
    let now = sinks (g.O.Sink.state c.args.out.now) (g.E.Sink.state c.args.err.now) in
    let after = sinks (g.O.Sink.state c.advance.new.out) (g.E.Sink.state c.advance.new.err) in
    let fits = g.W.Observer.fits c.args.observer.now in
    let advances = advances_by g.W.Observer.stands fits first start before c.args.made (standing_of c.args.self.now) c.args.observer.now now remains
    (g.W.Observer.fits c.args.observer.now) refl (omega (arith, c.requires.budget, c.requires.limit))
    (standing_of c.advance.new.self) c.advance.new.observer after (Ok c.in_ok-finish.field-0) c.in_ok-finish.ensures.advances in
    let over = subst (λ (end : Option Finish). Advances g.W.Observer.stands fits first start remains.moves before (standing_of c.advance.new.self) c.advance.new.observer after (Ok end)) c.in-Some.is advances in
    over_by g.W.Observer.stands fits first start before c.args.made (standing_of c.args.self.now) c.args.observer.now now remains
    c.args.budget c.requires.budget (standing_of c.advance.new.self) c.advance.new.observer after c.in-Some.finish over

pub run_known-requires : goal.run_known-requires
run_known-requires g c =
    let some = c.requires.remains in
    let now = sinks (g.O.Sink.state c.args.out.now) (g.E.Sink.state c.args.err.now) in
    let after = sinks (g.O.Sink.state c.advance.new.out) (g.E.Sink.state c.advance.new.err) in
    let fits = g.W.Observer.fits c.args.observer.now in
    let next = next_by g.W.Observer.stands fits some.first some.start some.before c.args.made (standing_of c.args.self.now) c.args.observer.now now some.remains
    (standing_of c.advance.new.self) c.advance.new.observer after c.in_ok-finish.field-0 c.in_default.is
    (advances_by g.W.Observer.stands fits some.first some.start some.before c.args.made (standing_of c.args.self.now) c.args.observer.now now some.remains
    fits refl (omega (arith, c.requires.budget, c.requires.limit))
    (standing_of c.advance.new.self) c.advance.new.observer after (Ok c.in_ok-finish.field-0) c.in_ok-finish.ensures.advances) in
    record {
      remains = (
        after,
        record {
          first = some.first;
          start = some.start;
          before = some.before;
          remains = remains_same g.W.Observer.stands fits (g.W.Observer.fits c.advance.new.observer) c.in_ok-finish.ensures.same some.first some.start some.before
              (c.args.made + 1) (standing_of c.advance.new.self) c.advance.new.observer after next;
        },
      );
      budget = omega (arith, c.requires.budget);
      limit = c.requires.limit;
    }

pub returns-clause-ends : goal.returns-clause-ends
returns-clause-ends g c = λ first start before begun.
    let now = sinks (g.O.Sink.state c.args.out.now) (g.E.Sink.state c.args.err.now) in
    let after = sinks (g.O.Sink.state c.advance.new.out) (g.E.Sink.state c.advance.new.err) in
    let fits = g.W.Observer.fits c.args.observer.now in
    let next = next_by g.W.Observer.stands fits first start before c.args.made (standing_of c.args.self.now) c.args.observer.now now begun
    (standing_of c.advance.new.self) c.advance.new.observer after c.in_ok-finish.field-0 c.in_default.is
    (advances_by g.W.Observer.stands fits first start before c.args.made (standing_of c.args.self.now) c.args.observer.now now begun
    fits refl (omega (arith, c.requires.budget, c.requires.limit))
    (standing_of c.advance.new.self) c.advance.new.observer after (Ok c.in_ok-finish.field-0) c.in_ok-finish.ensures.advances) in
    turn_same g.W.Observer.stands fits (g.W.Observer.fits c.advance.new.observer) c.in_ok-finish.ensures.same first start before c.args.budget
    (standing_of c.run_known.new.self) c.run_known.new.observer after c.run_known.result
    (c.run_known.ensures.ends after first start before
    (remains_same g.W.Observer.stands fits (g.W.Observer.fits c.advance.new.observer) c.in_ok-finish.ensures.same first start before
    (c.args.made + 1) (standing_of c.advance.new.self) c.advance.new.observer after next))
