use Rattle.std.proofs.Common.{◌≡◌, ◌∙◌, ◌∷◌, [], Some, ap, arith, refl, subst, sym}
use Rattle.trace_model.specs.declared.event_kinds.Event.TheVariants.{Ret}
use Rattle.trace_model.specs.declared.slow_profile.Done.{Done}
use Rattle.trace_model.specs.Depth.{is_within}
use Rattle.trace_model.specs.Observing.{MayTakeAfter}
use Rattle.stamp_table.specs.Renewal.{bounded_tick}
use Rattle.stamp_table.specs.Ticks.{table_after, table_after_steps}
use Rattle.shadow_core.specs.Profiling.{StandsFor}
use Rattle.shadow_core.specs.State.{State, stepped, table_of_state}
use Rattle.shadow_core.proofs.After.{alive_after, calls_there, counts_fit, few_found, mid_made, pops, return_made, return_pages, return_recorded, taken_after}
use Rattle.shadow_core.proofs.Applied.{deep_by_frames}
use Rattle.shadow_core.proofs.Profiled.{lives_here}
use Rattle.shadow_core.proofs.SamePages.{threads_alike}
use Rattle.shadow_core.proofs.Settled.{whole_return}
use Rattle.shadow_core.proofs.profiler.Profiler.return_after.Goals as goal

pub return_after-requires-clause-lives : goal.return_after-requires-clause-lives
return_after-requires-clause-lives g c =
    let s : State = record { counter = c.self.inside.counter; writes = c.self.inside.writes.pages; marks = c.self.inside.marks.pages; live = c.self.inside.threads; last = c.self.inside.last; greatest = c.self.inside.greatest; weight = c.self.inside.weight; renumbered = c.self.inside.renumbered; settled = c.self.inside.settled } in
    let may = subst (λ (k : State). MayTakeAfter (StandsFor g.S.Stamp.MAX) (is_within g.S.Stamp.MAX) k c.args.tid c.args.steps (Ret c.args.tid c.args.target)) (sym c.self.view_is) c.requires.may in
    lives_here s c.args.tid (alive_after g.S.Stamp.MAX c.args.tid c.args.steps (Ret c.args.tid c.args.target) s may c.requires.some)

pub return_after-requires-clause-fits : goal.return_after-requires-clause-fits
return_after-requires-clause-fits g c =
    let s : State = record { counter = c.self.inside.counter; writes = c.self.inside.writes.pages; marks = c.self.inside.marks.pages; live = c.self.inside.threads; last = c.self.inside.last; greatest = c.self.inside.greatest; weight = c.self.inside.weight; renumbered = c.self.inside.renumbered; settled = c.self.inside.settled } in
    let may = subst (λ (k : State). MayTakeAfter (StandsFor g.S.Stamp.MAX) (is_within g.S.Stamp.MAX) k c.args.tid c.args.steps (Ret c.args.tid c.args.target)) (sym c.self.view_is) c.requires.may in
    let runs : c.self.inside.last ≡ Some c.args.tid = c.if-not-is_running.ensures.runs refl in
    (counts_fit g.S.Stamp.MAX c.args.tid c.args.steps (Ret c.args.tid c.args.target) s may c.requires.some runs).0

pub return_after-requires-clause-frames : goal.return_after-requires-clause-frames
return_after-requires-clause-frames g c =
    let s : State = record { counter = c.self.inside.counter; writes = c.self.inside.writes.pages; marks = c.self.inside.marks.pages; live = c.self.inside.threads; last = c.self.inside.last; greatest = c.self.inside.greatest; weight = c.self.inside.weight; renumbered = c.self.inside.renumbered; settled = c.self.inside.settled } in
    let may = subst (λ (k : State). MayTakeAfter (StandsFor g.S.Stamp.MAX) (is_within g.S.Stamp.MAX) k c.args.tid c.args.steps (Ret c.args.tid c.args.target)) (sym c.self.view_is) c.requires.may in
    let runs : c.self.inside.last ≡ Some c.args.tid = c.if-not-is_running.ensures.runs refl in
    calls_there g.S.Stamp.MAX c.args.tid c.args.steps c.args.target s may c.requires.some runs

pub return_after-requires-clause-sums : goal.return_after-requires-clause-sums
return_after-requires-clause-sums g c =
    let s : State = record { counter = c.self.inside.counter; writes = c.self.inside.writes.pages; marks = c.self.inside.marks.pages; live = c.self.inside.threads; last = c.self.inside.last; greatest = c.self.inside.greatest; weight = c.self.inside.weight; renumbered = c.self.inside.renumbered; settled = c.self.inside.settled } in
    let may = subst (λ (k : State). MayTakeAfter (StandsFor g.S.Stamp.MAX) (is_within g.S.Stamp.MAX) k c.args.tid c.args.steps (Ret c.args.tid c.args.target)) (sym c.self.view_is) c.requires.may in
    let runs : c.self.inside.last ≡ Some c.args.tid = c.if-not-is_running.ensures.runs refl in
    pops g.S.Stamp.MAX c.args.tid c.args.steps c.args.target s may c.requires.some runs

pub overflow_add-self : goal.overflow_add-self
overflow_add-self g c =
    let s : State = record { counter = c.self.inside.counter; writes = c.self.inside.writes.pages; marks = c.self.inside.marks.pages; live = c.self.inside.threads; last = c.self.inside.last; greatest = c.self.inside.greatest; weight = c.self.inside.weight; renumbered = c.self.inside.renumbered; settled = c.self.inside.settled } in
    let may = subst (λ (k : State). MayTakeAfter (StandsFor g.S.Stamp.MAX) (is_within g.S.Stamp.MAX) k c.args.tid c.args.steps (Ret c.args.tid c.args.target)) (sym c.self.view_is) c.requires.may in
    let runs : c.self.inside.last ≡ Some c.args.tid = c.if-not-is_running.ensures.runs refl in
    let fits = counts_fit g.S.Stamp.MAX c.args.tid c.args.steps (Ret c.args.tid c.args.target) s may c.requires.some runs in
    omega (arith, fits.1)

pub overflow_add-self-in-Some : goal.overflow_add-self-in-Some
overflow_add-self-in-Some g c =
    let s : State = record { counter = c.self.inside.counter; writes = c.self.inside.writes.pages; marks = c.self.inside.marks.pages; live = c.self.inside.threads; last = c.self.inside.last; greatest = c.self.inside.greatest; weight = c.self.inside.weight; renumbered = c.self.inside.renumbered; settled = c.self.inside.settled } in
    let may = subst (λ (k : State). MayTakeAfter (StandsFor g.S.Stamp.MAX) (is_within g.S.Stamp.MAX) k c.args.tid c.args.steps (Ret c.args.tid c.args.target)) (sym c.self.view_is) c.requires.may in
    let runs : c.self.inside.last ≡ Some c.args.tid = c.if-not-is_running.ensures.runs refl in
    let fits = counts_fit g.S.Stamp.MAX c.args.tid c.args.steps (Ret c.args.tid c.args.target) s may c.requires.some runs in
    omega (arith, fits.1)

pub record_of-requires-clause-thread : goal.record_of-requires-clause-thread
record_of-requires-clause-thread g c =
    let s : State = record { counter = c.self.inside.counter; writes = c.self.inside.writes.pages; marks = c.self.inside.marks.pages; live = c.self.inside.threads; last = c.self.inside.last; greatest = c.self.inside.greatest; weight = c.self.inside.weight; renumbered = c.self.inside.renumbered; settled = c.self.inside.settled } in
    let may = subst (λ (k : State). MayTakeAfter (StandsFor g.S.Stamp.MAX) (is_within g.S.Stamp.MAX) k c.args.tid c.args.steps (Ret c.args.tid c.args.target)) (sym c.self.view_is) c.requires.may in
    let runs : c.self.inside.last ≡ Some c.args.tid = c.if-not-is_running.ensures.runs refl in
    (few_found g.S.Stamp.MAX c.args.tid c.args.steps c.args.target s may c.requires.some runs c.return_after.new.self c.in-Some.ended c.in-Some.ensures.ended).0

pub record_of-requires-clause-kernel : goal.record_of-requires-clause-kernel
record_of-requires-clause-kernel g c =
    let s : State = record { counter = c.self.inside.counter; writes = c.self.inside.writes.pages; marks = c.self.inside.marks.pages; live = c.self.inside.threads; last = c.self.inside.last; greatest = c.self.inside.greatest; weight = c.self.inside.weight; renumbered = c.self.inside.renumbered; settled = c.self.inside.settled } in
    let may = subst (λ (k : State). MayTakeAfter (StandsFor g.S.Stamp.MAX) (is_within g.S.Stamp.MAX) k c.args.tid c.args.steps (Ret c.args.tid c.args.target)) (sym c.self.view_is) c.requires.may in
    let runs : c.self.inside.last ≡ Some c.args.tid = c.if-not-is_running.ensures.runs refl in
    (few_found g.S.Stamp.MAX c.args.tid c.args.steps c.args.target s may c.requires.some runs c.return_after.new.self c.in-Some.ended c.in-Some.ensures.ended).1

pub returns-in-Some-clause-table : goal.returns-in-Some-clause-table
returns-in-Some-clause-table g c =
    let s : State = record { counter = c.self.inside.counter; writes = c.self.inside.writes.pages; marks = c.self.inside.marks.pages; live = c.self.inside.threads; last = c.self.inside.last; greatest = c.self.inside.greatest; weight = c.self.inside.weight; renumbered = c.self.inside.renumbered; settled = c.self.inside.settled } in
    let may = subst (λ (k : State). MayTakeAfter (StandsFor g.S.Stamp.MAX) (is_within g.S.Stamp.MAX) k c.args.tid c.args.steps (Ret c.args.tid c.args.target)) (sym c.self.view_is) c.requires.may in
    let runs : c.self.inside.last ≡ Some c.args.tid = c.if-not-is_running.ensures.runs refl in
    let e = Ret c.args.tid c.args.target in
    return_made g.S.Stamp.MAX c.args.tid c.args.steps c.args.target s may c.requires.some runs c.return_after.new.self c.in-Some.ended c.in-Some.ensures.ended
    ∙ ap (table_after (bounded_tick g.S.Stamp.MAX) e)
    (mid_made g.S.Stamp.MAX c.args.tid c.args.steps e s may c.requires.some runs
    ∙ ap (λ (k : State). table_after_steps (bounded_tick g.S.Stamp.MAX) c.args.tid c.args.steps (table_of_state k)) c.self.view_is)

pub returns-in-Some-clause-stands : goal.returns-in-Some-clause-stands
returns-in-Some-clause-stands g c = λ past stands.
    let s : State = record { counter = c.self.inside.counter; writes = c.self.inside.writes.pages; marks = c.self.inside.marks.pages; live = c.self.inside.threads; last = c.self.inside.last; greatest = c.self.inside.greatest; weight = c.self.inside.weight; renumbered = c.self.inside.renumbered; settled = c.self.inside.settled } in
    let may = subst (λ (k : State). MayTakeAfter (StandsFor g.S.Stamp.MAX) (is_within g.S.Stamp.MAX) k c.args.tid c.args.steps (Ret c.args.tid c.args.target)) (sym c.self.view_is) c.requires.may in
    let runs : c.self.inside.last ≡ Some c.args.tid = c.if-not-is_running.ensures.runs refl in
    let e = Ret c.args.tid c.args.target in
    let one = c.in-Some.ensures.ended in
    taken_after g.S.Stamp.MAX c.args.tid c.args.steps e s may (stepped c.args.tid c.args.steps s) (mid_made g.S.Stamp.MAX c.args.tid c.args.steps e s may c.requires.some runs)
    _ (c.record_of.result ∷ []) (deep_by_frames g.S.Stamp.MAX e (stepped c.args.tid c.args.steps s))
    (return_made g.S.Stamp.MAX c.args.tid c.args.steps c.args.target s may c.requires.some runs c.return_after.new.self c.in-Some.ended one)
    (ap (λ (d : Done). d ∷ []) c.record_of.ensures ∙ return_recorded g.S.Stamp.MAX c.args.tid c.args.steps c.args.target s may c.requires.some runs c.return_after.new.self c.in-Some.ended one)
    past (subst (λ (k : State). StandsFor g.S.Stamp.MAX k past) (sym c.self.view_is) stands)

pub returns-in-Some-clause-pages : goal.returns-in-Some-clause-pages
returns-in-Some-clause-pages g c =
    let s : State = record { counter = c.self.inside.counter; writes = c.self.inside.writes.pages; marks = c.self.inside.marks.pages; live = c.self.inside.threads; last = c.self.inside.last; greatest = c.self.inside.greatest; weight = c.self.inside.weight; renumbered = c.self.inside.renumbered; settled = c.self.inside.settled } in
    let may = subst (λ (k : State). MayTakeAfter (StandsFor g.S.Stamp.MAX) (is_within g.S.Stamp.MAX) k c.args.tid c.args.steps (Ret c.args.tid c.args.target)) (sym c.self.view_is) c.requires.may in
    let runs : c.self.inside.last ≡ Some c.args.tid = c.if-not-is_running.ensures.runs refl in
    threads_alike c.self.view_is refl refl (return_pages g.S.Stamp.MAX c.args.tid c.args.steps c.args.target s may c.requires.some runs c.return_after.new.self c.in-Some.ended c.in-Some.ensures.ended)

pub invariant_of-self : goal.invariant_of-self
invariant_of-self g c =
    let s : State = record { counter = c.self.inside.counter; writes = c.self.inside.writes.pages; marks = c.self.inside.marks.pages; live = c.self.inside.threads; last = c.self.inside.last; greatest = c.self.inside.greatest; weight = c.self.inside.weight; renumbered = c.self.inside.renumbered; settled = c.self.inside.settled } in
    let may = subst (λ (k : State). MayTakeAfter (StandsFor g.S.Stamp.MAX) (is_within g.S.Stamp.MAX) k c.args.tid c.args.steps (Ret c.args.tid c.args.target)) (sym c.self.view_is) c.requires.may in
    let runs : c.self.inside.last ≡ Some c.args.tid = c.if-not-is_running.ensures.runs refl in
    let e = Ret c.args.tid c.args.target in
    whole_return g.S.Stamp.MAX c.args.tid c.args.steps s _ runs c.self.invariant (mid_made g.S.Stamp.MAX c.args.tid c.args.steps e s may c.requires.some runs) refl c.self.invariant.marked
    c.args.target (return_made g.S.Stamp.MAX c.args.tid c.args.steps c.args.target s may c.requires.some runs c.return_after.new.self c.in-Some.ended c.in-Some.ensures.ended)
