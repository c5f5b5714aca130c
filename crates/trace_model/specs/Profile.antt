-- The profile of a run: each activation that ended, with its size, the parts of it, and its cost.
use Rattle.std.specs.Prelude.{◌≡◌, ◌≤◌, ℕ, ◌+◌, List, [], ◌∷◌, ◌++◌, map, Option, Some, None}
use Rattle.trace_model.specs.declared.event_kinds.Event.{Event}
use Rattle.trace_model.specs.declared.event_kinds.Event.TheVariants.{Step}
use Rattle.trace_model.specs.declared.slow_profile.Done.{Done}
use Rattle.trace_model.specs.declared.activations.Activation.{Activation}
use Rattle.trace_model.specs.Events.{thread_of}
use Rattle.trace_model.specs.Activations.{ending_calls}
use Rattle.trace_model.specs.Sizes.{since, before, size, bare, cost}
use Rattle.trace_model.specs.Causes.{Plain, OtherThread, Kernel, part}

-- what the profile has of an activation of thread t with these events inside, after the past
abbrev pub done_with : List Event → List Event → ℕ → ℕ → Done
done_with inside past t entry = record {
  tid = t;
  entry = entry;
  size = size inside t;
  cost = cost inside t;
  plain = part Plain inside past t;
  thread = part OtherThread inside past t;
  kernel = part Kernel inside past t;
  bare = bare inside t;
}

-- what it has of one that ends now
abbrev pub done_of : List Event → ℕ → Activation → Done
done_of past t a = done_with (since past a.at) (before past (a.at + 1)) t a.entry

-- The parts add up to the size, and the plain read memory size lies between the plain part and the size.
pub record HasParts (d : Done) : Type 0 where
  pub parts : d.plain + d.thread + d.kernel ≡ d.size
  pub low : d.plain ≤ d.bare
  pub high : d.bare ≤ d.size

abbrev pub ended_of : List Event → Event → Option ℕ → List Done
ended_of past e None = []
ended_of past e (Some t) = map (done_of past t) (ending_calls e past t)

-- what it has of the activations that the event ends after the past, the innermost first
abbrev pub ended : Event → List Event → List Done
ended e past = ended_of past e (thread_of e)

-- each ended activation, in order of ending
abbrev pub done : List Event → List Done
done [] = []
done (e ∷ past) = done past ++ ended e past

-- the instructions of all threads
abbrev pub steps : List Event → ℕ
steps [] = 0
steps (Step _ ∷ past) = steps past + 1
steps (_ ∷ past) = steps past
