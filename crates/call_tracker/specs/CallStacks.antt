-- The open calls of all threads.
use Rattle.std.specs.Prelude.{◌≡◌, ℕ, ◌≤◌, List, [], All, is_some, map}
use Rattle.std.specs.Option.{option_map_or}
use Rattle.guest_words.specs.ByThread.{numbers, value_of}
use Rattle.trace_model.specs.declared.event_kinds.Event.{Event}
use Rattle.trace_model.specs.declared.activations.Activation.{Activation}
use Rattle.trace_model.specs.Activations.{open_calls}
use Rattle.trace_model.specs.Depth.{pending}
use Rattle.trace_model.specs.WellFormed.{greatest_start, is_live}
use Rattle.call_tracker.specs.declared.open_calls.OpenCall.{OpenCall}

-- the threads by rising number, each with its open calls, the innermost first; and how many calls are open
pub record Stacks : Type 0 where
  pub threads : List (ℕ × List OpenCall)
  pub pending : ℕ

-- the open calls of a thread, the innermost first
abbrev pub calls_of : Stacks → ℕ → List OpenCall
calls_of stacks t = option_map_or (λ calls. calls) (value_of stacks.threads t) []

-- an activation as the call that is kept of it
abbrev pub call_of : Activation → OpenCall
call_of a = record { entry = a.entry; back = a.back }

-- the calls of the thread that a past leaves open, the innermost first
abbrev pub calls_after : List Event → ℕ → List OpenCall
calls_after past t = map call_of (open_calls past t)

-- The threads that live are kept, with the calls that the past leaves open.
pub record StacksStandFor (stacks : Stacks) (past : List Event) : Type 0 where
  pub threads_live : (t : ℕ) → is_some (value_of stacks.threads t) ≡ is_live past t
  pub threads_began : All (λ n. n ≤ greatest_start past) (numbers stacks.threads)
  pub calls_are : (t : ℕ) → calls_of stacks t ≡ calls_after past t
  pub pending_is : stacks.pending ≡ pending past
