-- How a run that is observed ends.
use Rattle.std.specs.Prelude.{◌≡◌, ℕ, List, ◌∷◌, ◌++◌, Result, Ok, Err}
use Rattle.trace_model.specs.declared.event_kinds.Event.{Event}
use Rattle.elf_image.specs.Image.{Executable}
use Rattle.guest_kernel.specs.Inputs.{Input}
use Rattle.guest_machine.specs.Kept.{Parts, machine_of}
use Rattle.guest_machine.specs.Start.{start}
use Rattle.guest_run.specs.declared.run.Ended.{Ended}
use Rattle.guest_kernel.specs.declared.channel.Channel.{Channel}
use Rattle.guest_run.specs.declared.run_error.RunError.{RunError}
use Rattle.guest_run.specs.declared.run_error.RunError.TheVariants.{CannotPut, Memory}
use Rattle.guest_run.specs.Output.{FailsOn, Sinks, with_output}
use Rattle.guest_run.specs.ObservedRun.{ObservedRun}
use Rattle.guest_run.specs.Run.{Move, recording}

-- The machine has made no step: it is as it began with an image, arguments, input files and standard input.
pub record IsAtStart (machine : Parts) : Type 0 where
  pub image : Executable
  pub arguments : List (List ℕ)
  pub inputs : List Input
  pub stdin : List ℕ
  pub state : machine_of machine ≡ start image arguments inputs stdin
  pub entry : machine.entry ≡ image.entry

-- The run came to its end: the observer stands for its trace, all of its output was put, and this is its recording and its end.
pub record IsWhole {W : Type 0} (Stands : W → List Event → Type 0) (p : ObservedRun) (before : Sinks) (observer : W) (after : Sinks) (ended : Ended) : Type 0 where
  pub past : Stands observer p.past
  pub output : after ≡ with_output p.moves before
  pub recorded : ended.recording ≡ recording p.moves
  pub finish : ended.finish ≡ p.finish

-- The run was given up at a move, a put of whose output failed on a channel. That of the moves before it was put, and nothing
-- of the moves after it.
pub record StopsAtPut (channel : Channel) (moves : List Move) (before after : Sinks) : Type 0 where
  pub earlier : List Move
  pub move : Move
  pub later : List Move
  pub are : earlier ++ move ∷ later ≡ moves
  pub failed : FailsOn channel move.out (with_output earlier before) after

-- The run was given up after some of its moves, whose output was put.
pub record IsGivenUp (moves : List Move) (before after : Sinks) : Type 0 where
  pub earlier : List Move
  pub later : List Move
  pub are : earlier ++ later ≡ moves
  pub output : after ≡ with_output earlier before

-- How a run ends, of which this is observed: whole, or given up because a put failed or memory ran out.
abbrev pub RunEnds : {W : Type 0} → (W → List Event → Type 0) → ObservedRun → Sinks → W → Sinks → Result Ended RunError → Type 0
RunEnds Stands p before observer after (Ok ended) = IsWhole Stands p before observer after ended
RunEnds Stands p before observer after (Err (CannotPut channel)) = StopsAtPut channel p.moves before after
RunEnds Stands p before observer after (Err Memory) = IsGivenUp p.moves before after
