-- The run of an executable, by the parts that make it.
use Rattle.std.proofs.Common.{◌≡◌, ℕ, Bool, List, Option, None, Ok, Err, ap, ◌∙◌, inr}
use Rattle.trace_model.specs.declared.event_kinds.Event.{Event}
use Rattle.command_line.specs.Options.{GuestOptions}
use Rattle.guest_machine.specs.declared.setup.SetupError.{SetupError}
use Rattle.guest_machine.specs.declared.setup.SetupError.TheVariants as setup
use Rattle.guest_machine.specs.Machine.{MachineState}
use Rattle.guest_run.specs.declared.run.Ended.{Ended}
use Rattle.guest_kernel.specs.declared.channel.Channel.TheVariants as channel
use Rattle.guest_run.specs.declared.run_error.RunError.{RunError}
use Rattle.guest_run.specs.declared.run_error.RunError.TheVariants as run
use Rattle.guest_run.specs.Laws.{scheduler}
use Rattle.guest_run.specs.Machine.{guest}
use Rattle.guest_run.specs.Output.{Sinks}
use Rattle.guest_run.specs.ObservedRun.{ObservedRun, first_past, observed_run}
use Rattle.guest_run.specs.Run as runs
use Rattle.guest_run.specs.RunEnds.{RunEnds}
use Rattle.thread_sched.specs.TurnRule.{SchedulerState}
use Rattle.thread_sched.specs.declared.entry.Entry.{Entry}
use Rattle.aprof_top.specs.Private.Ending.{of_run}
use Rattle.aprof_top.specs.Private.Jobs.{ImageRuns}
use Rattle.aprof_top.specs.Run.{observed_from}

-- its run ends
pub ImageRuns-run : {W : Type 0} (Stands : W → List Event → Type 0) (refusal : Option SetupError) (seen : ObservedRun) (before : Sinks) (observer : W) (after : Sinks) → refusal ≡ None → (ended : Ended) →
    RunEnds Stands seen before observer after (Ok ended) → ImageRuns Stands refusal seen before observer after (Ok ended)
ImageRuns-run Stands refusal seen before observer after begins ended ends = (begins, ends)

pub ImageRuns-given_up : {W : Type 0} (Stands : W → List Event → Type 0) (refusal : Option SetupError) (seen : ObservedRun) (before : Sinks) (observer : W) (after : Sinks) → refusal ≡ None → (e : RunError) →
    RunEnds Stands seen before observer after (Err e) → ImageRuns Stands refusal seen before observer after (Err (of_run e))
ImageRuns-given_up Stands refusal seen before observer after begins (run.CannotPut channel.Out) ends = (begins, ends)
ImageRuns-given_up Stands refusal seen before observer after begins (run.CannotPut channel.Err) ends = (begins, ends)
ImageRuns-given_up Stands refusal seen before observer after begins run.Memory ends = inr (begins, ends)

-- what is observed of it, by the machine that began so
pub seen_as : (fits : List Event → Bool) (options : GuestOptions) (turns : List Entry) (entry from : ℕ) (state machine : MachineState) (known : SchedulerState) →
    from ≡ entry → machine ≡ state → known ≡ scheduler options.quantum turns →
    observed_run fits (first_past from) (runs.run guest known options.budget machine) ≡ observed_from fits options turns entry state
unfolding observed_from
seen_as fits options turns entry from state machine known entry_is state_is known_is =
    ap (λ e. observed_run fits (first_past e) (runs.run guest known options.budget machine)) entry_is
    ∙ ap (λ s. observed_run fits (first_past entry) (runs.run guest known options.budget s)) state_is
    ∙ ap (λ k. observed_run fits (first_past entry) (runs.run guest k options.budget state)) known_is
