-- The trace of a run is well formed.
use Rattle.std.proofs.Common.{◌<◌, ◌^◌, Bool, true, false, cond, List, [], ◌∷◌, ◌++◌, refl, sym, subst, arith}
use Rattle.trace_model.specs.declared.event_kinds.Event.{Event}
use Rattle.trace_model.specs.Cut.{cut, past_after}
use Rattle.trace_model.proofs.Cut.{past_after-cons}
use Rattle.trace_model.specs.WellFormed.{IsWellFormed, MayFollow, weight}
use Rattle.guest_machine.specs.Laws.{EachFollows}
use Rattle.guest_machine.specs.Start.{start}
use Rattle.guest_machine.specs.Step.{step}
use Rattle.guest_machine.proofs.Follows.{every_step_continues}
use Rattle.guest_run.specs.Machine.{guest}
use Rattle.guest_run.specs.Run.{events_of, run}
use Rattle.guest_run.specs.Run as runs
use Rattle.guest_run.specs.ObservedRun.{first_past, observed_run}
use Rattle.guest_run.specs.Traces.{EveryRunIsWellFormed}
use Rattle.guest_run.proofs.Guarded.{IsSoundAfter, Steps, each_move, sound_next, sound_woken, start_able, start_sound}
use Rattle.guest_run.proofs.Weights.{every_run_light, whole_light}

follows-append : (xs ys past : List Event) → EachFollows xs past → EachFollows ys (past_after past xs) →
    EachFollows (xs ++ ys) past
follows-append [] ys past front back = back
follows-append (e ∷ xs) ys past front back = (front.0, follows-append xs ys (e ∷ past) front.1 (subst (EachFollows ys) (past_after-cons past e xs) back))

-- the events of moves may follow the past
pub run_follows : Steps IsSoundAfter (λ past moves. EachFollows (events_of moves) past)
run_follows = record {
  keeps = sound_next;
  wakes = sound_woken;
  none = λ past. tt;
  moves = λ opens m tid past moves sound can rest.
      follows-append (step m tid).events (events_of moves) past (every_step_continues m tid past sound.0 can).0 rest;
}

-- ---- whole pasts
-- each event may follow those before it
abbrev pub AllFollow : List Event → Type 0
AllFollow [] = Unit {0}
AllFollow (e ∷ past) = MayFollow e past × AllFollow past

pub all_after : (events past : List Event) → AllFollow past → EachFollows events past → AllFollow (past_after past events)
all_after [] past before after = before
all_after (e ∷ events) past before after = subst AllFollow (sym (past_after-cons past e events)) (all_after events (e ∷ past) (after.0, before) after.1)

pub all_cut : (past : List Event) (fits : List Event → Bool) → AllFollow past → AllFollow (cut fits past)
all_cut [] fits all = tt
all_cut (e ∷ past) fits all = by (fits (e ∷ past)) (all_cut past fits all.1)
  where
    by : (b : Bool) → AllFollow (cut fits past) → AllFollow (cond b (e ∷ past) (cut fits past))
    by true rest = all
    by false rest = rest

pub formed_of : (past : List Event) → AllFollow past → weight past < 2 ^ 62 → IsWellFormed past
formed_of [] all light = tt
formed_of (e ∷ past) all light = (all.0, light, formed_of past all.1 (omega (arith, light)))

pub every_run_formed : EveryRunIsWellFormed
unfolding observed_run
every_run_formed image arguments inputs stdin fits turns budget few =
    let begin = start image arguments inputs stdin in
    let past = first_past image.entry in
    let events = events_of (run guest turns budget begin).moves in
    let follows = each_move IsSoundAfter _ run_follows budget (runs.start turns begin) past (start_sound image arguments inputs stdin) (start_able (runs.start turns begin) refl) in
    let follow : AllFollow (past_after past events) = all_after events past (omega arith, tt) follows in
    record {
      all = formed_of (past_after past events) follow (whole_light image arguments inputs stdin turns budget few);
      observed_part = formed_of (cut fits (past_after past events)) (all_cut (past_after past events) fits follow) (every_run_light image arguments inputs stdin fits turns budget few);
    }
