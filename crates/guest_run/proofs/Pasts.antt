-- The past of a machine goes on by a step.
use Rattle.std.proofs.Common.{◌≡◌, ℕ, ◌+◌, ◌<◌, ◌≤◌, true, List, [], ◌∷◌, reverse, arith}
use Rattle.guest_words.specs.declared.limits.TheConstants.{RUN_STEPS}
use Rattle.trace_model.specs.declared.event_kinds.Event.{Event}
use Rattle.trace_model.specs.Cut.{past_after}
use Rattle.trace_model.specs.Profile.{steps}
use Rattle.trace_model.specs.WellFormed.{IsLight, IsWellFormed}
use Rattle.trace_model.proofs.Parts.{short_light}
use Rattle.guest_machine.specs.Laws.{KeepsThreads}
use Rattle.guest_machine.specs.Machine.{MachineState, can_run}
use Rattle.guest_machine.specs.Step.{step}
use Rattle.guest_machine.proofs.Follows.{every_step_continues}
use Rattle.guest_machine.proofs.Limits.{every_step_within}
use Rattle.guest_machine.proofs.StepParts.{every_step_part, step_counts, steps-append}
use Rattle.guest_run.specs.Private.Going.{IsPastOf}
use Rattle.guest_run.proofs.Guarded.{limits_kept, stands_kept}
use Rattle.guest_run.proofs.Counted.{steps-reverse}
use Rattle.guest_run.proofs.Formed.{AllFollow, all_after, formed_of}
use Rattle.guest_run.proofs.ShortParts.{move_short}

all_follow : (past : List Event) → IsWellFormed past → AllFollow past
all_follow [] formed = tt
all_follow (e ∷ past) formed = (formed.0, all_follow past formed.2)

-- a machine with the same threads has the same past
pub past_kept : (m new : MachineState) (past : List Event) → KeepsThreads m new → IsPastOf past m → IsPastOf past new
past_kept m new past keeps is = record {
  threads = stands_kept m new past keeps is.threads;
  limits = limits_kept m new keeps is.limits;
  formed = is.formed;
  short = is.short;
}

-- it has one more step at most
pub step_adds : (m : MachineState) (tid : ℕ) (past : List Event) → steps (past_after past (step m tid).events) ≤ steps past + 1
step_adds m tid past =
    let events = (step m tid).events in
    omega (arith, steps-append (reverse events) past, steps-reverse events, step_counts m tid)

pub past_step : (m : MachineState) (tid : ℕ) (past : List Event) → IsPastOf past m → can_run m tid ≡ true → steps past < RUN_STEPS →
    IsPastOf (past_after past (step m tid).events) (step m tid).machine
past_step m tid past is can few =
    let events = (step m tid).events in
    let next = past_after past events in
    let goes = every_step_continues m tid past is.threads can in
    let short = move_short tid events past (every_step_part m tid is.limits.few) is.short in
    let light : IsLight next = short_light next (omega (arith, step_adds m tid past, few)) short in
    record {
      threads = goes.1;
      limits = every_step_within m tid is.threads.same_threads is.limits;
      formed = formed_of next (all_after events past (all_follow past is.formed) goes.0) light;
      short = short;
    }
