-- What a command that was read asks.
use Rattle.std.specs.Prelude.{◌≤◌, map, option_map}
use Rattle.guest_words.specs.declared.limits.TheConstants.{DEMO_ROUTINES, QUANTUM_STEPS, RUN_STEPS}
use Rattle.command_line.specs.Options.{Analysis, Asked, GuestOptions, ReplayOptions, RunOptions}
use Rattle.command_line.specs.declared.commands.Command.{Command}
use Rattle.command_line.specs.declared.guest_options.GuestOptions as declared
use Rattle.command_line.specs.declared.guest_command.GuestCommand.{GuestCommand}
use Rattle.command_line.specs.declared.analysis.Analysis as declared_analysis
use Rattle.command_line.specs.declared.analysis.Analysis.TheVariants as analysis
use Rattle.command_line.specs.declared.analysis.RunOptions as declared_run
use Rattle.command_line.specs.declared.replay_command.ReplayCommand.{ReplayCommand}

-- what a command says of its guest
abbrev pub guest_in : declared.GuestOptions → GuestOptions
guest_in guest = record {
  stdin = option_map (λ path. path.now) guest.stdin;
  schedule = option_map (λ path. path.now) guest.schedule;
  quantum = guest.quantum;
  budget = guest.budget;
  image = guest.image.now;
  words = map (λ word. word.now) guest.words.items;
}

-- what `run` is asked beside
abbrev pub run_in : declared_run.RunOptions → RunOptions
run_in options = record { recording = option_map (λ path. path.now) options.recording; bits = options.bits; stats = options.stats }

-- what a command makes of its guest's run
abbrev pub analysis_in : declared_analysis.Analysis → Analysis
analysis_in (analysis.Run options) = Analysis.Run (run_in options)
analysis_in analysis.Trace = Analysis.Trace
analysis_in (analysis.Cache shape) = Analysis.Cache shape
analysis_in (analysis.Contexts bits) = Analysis.Contexts bits

-- what a command that runs a guest asks for
abbrev pub guest_asked_in : GuestCommand → Asked
guest_asked_in command = Asked.Guest (guest_in command.guest) command.output.now (analysis_in command.analysis)

-- what a command `replay` says
abbrev pub replay_in : ReplayCommand → ReplayOptions
replay_in command = record { trace = command.trace.now; report = command.report.now; bits = command.bits; stats = command.stats }

-- what a command asks for
abbrev pub asked_in : Command → Asked
asked_in (Command.Guest command) = guest_asked_in command
asked_in (Command.Replay replay) = Asked.Replay (replay_in replay)
asked_in (Command.Demo number) = Asked.Demo number

-- The numbers of a guest's options are in their ranges.
pub record AreInRange (guest : GuestOptions) : Type 0 where
  pub some_steps : 1 ≤ guest.quantum
  pub short_turn : guest.quantum ≤ QUANTUM_STEPS
  pub some_budget : 1 ≤ guest.budget
  pub small_budget : guest.budget ≤ RUN_STEPS

-- The numbers of a command are in their ranges.
abbrev pub IsCommandInRange : Command → Type 0
IsCommandInRange (Command.Guest command) = AreInRange (guest_in command.guest)
IsCommandInRange (Command.Replay replay) = Unit {0}
IsCommandInRange (Command.Demo number) = (1 ≤ number) × (number ≤ DEMO_ROUTINES)
