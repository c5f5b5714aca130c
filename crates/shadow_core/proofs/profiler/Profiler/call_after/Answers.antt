use Rattle.std.proofs.Common.{◌≡◌, ◌∙◌, ◌+◌, ◌*◌, ◌<◌, [], All, Some, ap, arith, false, length, refl, subst, sym}
use Rattle.std.specs.Prelude.{is_some, nat_lt}
use Rattle.trace_model.specs.declared.event_kinds.Event.TheVariants.{Call}
use Rattle.trace_model.specs.Depth.{is_within}
use Rattle.trace_model.specs.Observing.{MayTakeAfter}
use Rattle.shadow_stack.specs.Frames.{starts_of}
use Rattle.stamp_renumber.specs.Counted.{steps_added, with_calls}
use Rattle.stamp_renumber.specs.Threads.{all_starts, calls_of, frames_of}
use Rattle.stamp_table.specs.Renewal.{bounded_tick}
use Rattle.stamp_table.specs.Ticks.{table_after, table_after_steps}
use Rattle.shadow_core.specs.Profiling.{StandsFor}
use Rattle.shadow_core.specs.State.{State, stepped, table_of_state}
use Rattle.shadow_core.proofs.After.{above_all, alive_after, call_made, call_shallow, counts_fit, mid_made, starts_fit, taken_after}
use Rattle.shadow_core.proofs.Profiled.{lives_here}
use Rattle.shadow_core.proofs.Reading.{with_found}
use Rattle.shadow_core.proofs.SamePages.{calls_alike, stamped_alike, threads_alike}
use Rattle.shadow_core.proofs.Settled.{whole_call}
use Rattle.shadow_core.proofs.profiler.Profiler.call_after.Goals as goal

pub is_full-requires : goal.is_full-requires
is_full-requires g c =
    starts_fit g.S.Stamp.MAX c.args.tid c.args.steps (Call c.args.tid c.args.entry c.args.back) c.args.self.now c.requires.may c.requires.some
    (ap (λ (k : State). k.last) (sym c.self.view_is) ∙ c.if-not-is_running.ensures.runs refl)

pub begin_after-requires-clause-lives : goal.begin_after-requires-clause-lives
begin_after-requires-clause-lives g c =
    let s : State = record { counter = c.self.inside.counter; writes = c.self.inside.writes.pages; marks = c.self.inside.marks.pages; live = c.self.inside.threads; last = c.self.inside.last; greatest = c.self.inside.greatest; weight = c.self.inside.weight; renumbered = c.self.inside.renumbered; settled = c.self.inside.settled } in
    let may = subst (λ (k : State). MayTakeAfter (StandsFor g.S.Stamp.MAX) (is_within g.S.Stamp.MAX) k c.args.tid c.args.steps (Call c.args.tid c.args.entry c.args.back)) (sym c.self.view_is) c.requires.may in
    lives_here s c.args.tid (alive_after g.S.Stamp.MAX c.args.tid c.args.steps (Call c.args.tid c.args.entry c.args.back) s may c.requires.some)

pub begin_after-requires-clause-fits : goal.begin_after-requires-clause-fits
begin_after-requires-clause-fits g c =
    let s : State = record { counter = c.self.inside.counter; writes = c.self.inside.writes.pages; marks = c.self.inside.marks.pages; live = c.self.inside.threads; last = c.self.inside.last; greatest = c.self.inside.greatest; weight = c.self.inside.weight; renumbered = c.self.inside.renumbered; settled = c.self.inside.settled } in
    let may = subst (λ (k : State). MayTakeAfter (StandsFor g.S.Stamp.MAX) (is_within g.S.Stamp.MAX) k c.args.tid c.args.steps (Call c.args.tid c.args.entry c.args.back)) (sym c.self.view_is) c.requires.may in
    let runs : c.self.inside.last ≡ Some c.args.tid = c.if-not-is_running.ensures.runs refl in
    (counts_fit g.S.Stamp.MAX c.args.tid c.args.steps (Call c.args.tid c.args.entry c.args.back) s may c.requires.some runs).0

pub begin_after-requires-clause-above : goal.begin_after-requires-clause-above
begin_after-requires-clause-above g c =
    let s : State = record { counter = c.self.inside.counter; writes = c.self.inside.writes.pages; marks = c.self.inside.marks.pages; live = c.self.inside.threads; last = c.self.inside.last; greatest = c.self.inside.greatest; weight = c.self.inside.weight; renumbered = c.self.inside.renumbered; settled = c.self.inside.settled } in
    let may = subst (λ (k : State). MayTakeAfter (StandsFor g.S.Stamp.MAX) (is_within g.S.Stamp.MAX) k c.args.tid c.args.steps (Call c.args.tid c.args.entry c.args.back)) (sym c.self.view_is) c.requires.may in
    let runs : c.self.inside.last ≡ Some c.args.tid = c.if-not-is_running.ensures.runs refl in
    let low : c.self.inside.counter < g.S.Stamp.MAX = omega (arith, c.if-self-MAX.false, c.MAX.ensures) in
    let number : g.S.Stamp.number_of c.from_number-now.result ≡ c.self.inside.counter + 1 =
    ap g.S.Stamp.number_of c.from_number-now.ensures ∙ g.met.S.Stamp.number_back (c.self.inside.counter + 1) (omega (arith, c.if-self-MAX.false, c.MAX.ensures)) in
    subst (λ n. All (λ r. r < n) (starts_of (frames_of c.self.inside.threads.threads c.args.tid))) (sym number)
    (above_all g.S.Stamp.MAX c.args.tid c.args.steps c.args.entry c.args.back s may c.requires.some runs low)

pub overflow_add-self-2 : goal.overflow_add-self-2
overflow_add-self-2 g c =
    let s : State = record { counter = c.self.inside.counter; writes = c.self.inside.writes.pages; marks = c.self.inside.marks.pages; live = c.self.inside.threads; last = c.self.inside.last; greatest = c.self.inside.greatest; weight = c.self.inside.weight; renumbered = c.self.inside.renumbered; settled = c.self.inside.settled } in
    let may = subst (λ (k : State). MayTakeAfter (StandsFor g.S.Stamp.MAX) (is_within g.S.Stamp.MAX) k c.args.tid c.args.steps (Call c.args.tid c.args.entry c.args.back)) (sym c.self.view_is) c.requires.may in
    let runs : c.self.inside.last ≡ Some c.args.tid = c.if-not-is_running.ensures.runs refl in
    let fits = counts_fit g.S.Stamp.MAX c.args.tid c.args.steps (Call c.args.tid c.args.entry c.args.back) s may c.requires.some runs in
    omega (arith, fits.1)

pub overflow_add-self-3 : goal.overflow_add-self-3
overflow_add-self-3 g c =
    let s : State = record { counter = c.self.inside.counter; writes = c.self.inside.writes.pages; marks = c.self.inside.marks.pages; live = c.self.inside.threads; last = c.self.inside.last; greatest = c.self.inside.greatest; weight = c.self.inside.weight; renumbered = c.self.inside.renumbered; settled = c.self.inside.settled } in
    let may = subst (λ (k : State). MayTakeAfter (StandsFor g.S.Stamp.MAX) (is_within g.S.Stamp.MAX) k c.args.tid c.args.steps (Call c.args.tid c.args.entry c.args.back)) (sym c.self.view_is) c.requires.may in
    let runs : c.self.inside.last ≡ Some c.args.tid = c.if-not-is_running.ensures.runs refl in
    let fits = counts_fit g.S.Stamp.MAX c.args.tid c.args.steps (Call c.args.tid c.args.entry c.args.back) s may c.requires.some runs in
    omega (arith, fits.1)

pub returns-clause-table : goal.returns-clause-table
returns-clause-table g c = λ yes.
    let s : State = record { counter = c.self.inside.counter; writes = c.self.inside.writes.pages; marks = c.self.inside.marks.pages; live = c.self.inside.threads; last = c.self.inside.last; greatest = c.self.inside.greatest; weight = c.self.inside.weight; renumbered = c.self.inside.renumbered; settled = c.self.inside.settled } in
    let may = subst (λ (k : State). MayTakeAfter (StandsFor g.S.Stamp.MAX) (is_within g.S.Stamp.MAX) k c.args.tid c.args.steps (Call c.args.tid c.args.entry c.args.back)) (sym c.self.view_is) c.requires.may in
    let runs : c.self.inside.last ≡ Some c.args.tid = c.if-not-is_running.ensures.runs refl in
    let low : c.self.inside.counter < g.S.Stamp.MAX = omega (arith, c.if-self-MAX.false, c.MAX.ensures) in
    let e = Call c.args.tid c.args.entry c.args.back in
    let number : g.S.Stamp.number_of c.from_number-now.result ≡ c.self.inside.counter + 1 =
    ap g.S.Stamp.number_of c.from_number-now.ensures ∙ g.met.S.Stamp.number_back (c.self.inside.counter + 1) (omega (arith, c.if-self-MAX.false, c.MAX.ensures)) in
    call_made g.S.Stamp.MAX c.args.tid c.args.steps c.args.entry c.args.back s may c.requires.some runs low
    (g.S.Stamp.number_of c.from_number-now.result) c.begin_after.new.self number (c.if-not-begin_after.ensures.begun refl)
    ∙ ap (table_after (bounded_tick g.S.Stamp.MAX) e)
    (mid_made g.S.Stamp.MAX c.args.tid c.args.steps e s may c.requires.some runs
    ∙ ap (λ (k : State). table_after_steps (bounded_tick g.S.Stamp.MAX) c.args.tid c.args.steps (table_of_state k)) c.self.view_is)

pub returns-clause-stands : goal.returns-clause-stands
returns-clause-stands g c = λ yes past stands.
    let s : State = record { counter = c.self.inside.counter; writes = c.self.inside.writes.pages; marks = c.self.inside.marks.pages; live = c.self.inside.threads; last = c.self.inside.last; greatest = c.self.inside.greatest; weight = c.self.inside.weight; renumbered = c.self.inside.renumbered; settled = c.self.inside.settled } in
    let may = subst (λ (k : State). MayTakeAfter (StandsFor g.S.Stamp.MAX) (is_within g.S.Stamp.MAX) k c.args.tid c.args.steps (Call c.args.tid c.args.entry c.args.back)) (sym c.self.view_is) c.requires.may in
    let runs : c.self.inside.last ≡ Some c.args.tid = c.if-not-is_running.ensures.runs refl in
    let low : c.self.inside.counter < g.S.Stamp.MAX = omega (arith, c.if-self-MAX.false, c.MAX.ensures) in
    let e = Call c.args.tid c.args.entry c.args.back in
    let number : g.S.Stamp.number_of c.from_number-now.result ≡ c.self.inside.counter + 1 =
    ap g.S.Stamp.number_of c.from_number-now.ensures ∙ g.met.S.Stamp.number_back (c.self.inside.counter + 1) (omega (arith, c.if-self-MAX.false, c.MAX.ensures)) in
    let full : nat_lt g.S.Stamp.MAX (3 * (length (all_starts c.self.inside.threads.threads) + 2)) ≡ false =
    ap (λ (k : State). nat_lt g.S.Stamp.MAX (3 * (length (all_starts k.live.threads) + 2))) c.self.view_is ∙ sym c.is_full.ensures ∙ c.if-is_full.false in
    taken_after g.S.Stamp.MAX c.args.tid c.args.steps e s may (stepped c.args.tid c.args.steps s) (mid_made g.S.Stamp.MAX c.args.tid c.args.steps e s may c.requires.some runs)
    _ [] (call_shallow g.S.Stamp.MAX c.args.tid c.args.steps c.args.entry c.args.back s may c.requires.some runs low full)
    (call_made g.S.Stamp.MAX c.args.tid c.args.steps c.args.entry c.args.back s may c.requires.some runs low
    (g.S.Stamp.number_of c.from_number-now.result) c.begin_after.new.self number (c.if-not-begin_after.ensures.begun refl))
    refl past (subst (λ (k : State). StandsFor g.S.Stamp.MAX k past) (sym c.self.view_is) stands)

pub returns-clause-pages : goal.returns-clause-pages
returns-clause-pages g c =
    let t = c.args.tid in
    let s : State = record { counter = c.self.inside.counter; writes = c.self.inside.writes.pages; marks = c.self.inside.marks.pages; live = c.self.inside.threads; last = c.self.inside.last; greatest = c.self.inside.greatest; weight = c.self.inside.weight; renumbered = c.self.inside.renumbered; settled = c.self.inside.settled } in
    let may = subst (λ (k : State). MayTakeAfter (StandsFor g.S.Stamp.MAX) (is_within g.S.Stamp.MAX) k t c.args.steps (Call t c.args.entry c.args.back)) (sym c.self.view_is) c.requires.may in
    let lives = lives_here s t (alive_after g.S.Stamp.MAX t c.args.steps (Call t c.args.entry c.args.back) s may c.requires.some) in
    let made = steps_added c.args.steps (calls_of s.live.threads t) in
    threads_alike c.self.view_is refl refl (λ u w.
    stamped_alike (with_calls s.live t made).threads c.begin_after.new.self.threads t _ _ (ap is_some (with_found s.live.threads t _ lives)) (λ v. refl) (c.if-not-begin_after.ensures.begun refl).threads u w
    ∙ calls_alike s.live (with_calls s.live t made) t made lives refl u w)

pub invariant_of-self-2 : goal.invariant_of-self-2
invariant_of-self-2 g c =
    let s : State = record { counter = c.self.inside.counter; writes = c.self.inside.writes.pages; marks = c.self.inside.marks.pages; live = c.self.inside.threads; last = c.self.inside.last; greatest = c.self.inside.greatest; weight = c.self.inside.weight; renumbered = c.self.inside.renumbered; settled = c.self.inside.settled } in
    let may = subst (λ (k : State). MayTakeAfter (StandsFor g.S.Stamp.MAX) (is_within g.S.Stamp.MAX) k c.args.tid c.args.steps (Call c.args.tid c.args.entry c.args.back)) (sym c.self.view_is) c.requires.may in
    let runs : c.self.inside.last ≡ Some c.args.tid = c.if-not-is_running.ensures.runs refl in
    let low : c.self.inside.counter < g.S.Stamp.MAX = omega (arith, c.if-self-MAX.false, c.MAX.ensures) in
    let e = Call c.args.tid c.args.entry c.args.back in
    let number : g.S.Stamp.number_of c.from_number-now.result ≡ c.self.inside.counter + 1 =
    ap g.S.Stamp.number_of c.from_number-now.ensures ∙ g.met.S.Stamp.number_back (c.self.inside.counter + 1) (omega (arith, c.if-self-MAX.false, c.MAX.ensures)) in
    whole_call g.S.Stamp.MAX c.args.tid c.args.steps s _ runs c.self.invariant (mid_made g.S.Stamp.MAX c.args.tid c.args.steps e s may c.requires.some runs) refl c.self.invariant.marked
    c.args.entry c.args.back low
    (call_made g.S.Stamp.MAX c.args.tid c.args.steps c.args.entry c.args.back s may c.requires.some runs low
    (g.S.Stamp.number_of c.from_number-now.result) c.begin_after.new.self number (c.if-not-begin_after.ensures.begun refl))
