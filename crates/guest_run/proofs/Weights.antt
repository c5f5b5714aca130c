-- How much the events of a run weigh.
use Rattle.std.proofs.Common.{◌≡◌, ℕ, ◌≤◌, true, List, refl, arith}
use Rattle.guest_words.specs.declared.limits.TheConstants.{RUN_STEPS}
use Rattle.trace_model.specs.Cut.{past_after}
use Rattle.trace_model.specs.Profile.{steps}
use Rattle.trace_model.specs.WellFormed.{IsLight}
use Rattle.trace_model.proofs.Parts.{short_light}
use Rattle.thread_sched.specs.TurnRule.{SchedulerState}
use Rattle.elf_image.specs.Image.{Executable}
use Rattle.guest_kernel.specs.Inputs.{Input}
use Rattle.guest_machine.specs.Start.{start}
use Rattle.guest_run.specs.Machine.{guest}
use Rattle.guest_run.specs.Run.{events_of, run}
use Rattle.guest_run.specs.ObservedRun.{first_past, observed_run}
use Rattle.guest_run.specs.Traces.{EveryRunIsLight}
use Rattle.guest_run.proofs.Counted.{steps_whole, steps_within}
use Rattle.guest_run.proofs.ShortParts.{every_run_short}

-- the whole past of a run
pub whole_light : (image : Executable) (arguments : List (List ℕ)) (inputs : List Input) (stdin : List ℕ)
    (turns : SchedulerState) (budget : ℕ) → budget ≤ RUN_STEPS →
    IsLight (past_after (first_past image.entry) (events_of (run guest turns budget (start image arguments inputs stdin)).moves))
whole_light image arguments inputs stdin turns budget few =
    let past = first_past image.entry in
    let begin = start image arguments inputs stdin in
    let first : steps past ≡ 0 = refl in
    short_light (past_after past (events_of (run guest turns budget begin).moves)) (omega (arith, steps_whole past turns budget begin, first, few)) (every_run_short image arguments inputs stdin (λ past. true) turns budget).all

pub every_run_light : EveryRunIsLight
every_run_light image arguments inputs stdin fits turns budget few =
    let past = first_past image.entry in
    let begin = start image arguments inputs stdin in
    let first : steps past ≡ 0 = refl in
    short_light (observed_run fits past (run guest turns budget begin)).past (omega (arith, steps_within fits past turns budget begin, first, few)) (every_run_short image arguments inputs stdin fits turns budget).observed_part
