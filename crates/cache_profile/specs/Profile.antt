-- The misses of a run that goes on.
use Rattle.std.specs.Prelude.{◌≡◌, ℕ, Bool, true, false, List, is_some}
use Rattle.guest_words.specs.ByThread.{value_of}
use Rattle.trace_model.specs.declared.event_kinds.Event.{Event}
use Rattle.trace_model.specs.declared.event_kinds.Event.TheVariants.{Step, Fill, Ret, End}
use Rattle.trace_model.specs.Profile.{steps}
use Rattle.trace_order.specs.Progress.{IsAllowed, IsProgressOf, ProgressState, is_of_one}
use Rattle.call_tracker.specs.CallStacks.{Stacks}
use Rattle.call_tracker.specs.CallStacks as calls
use Rattle.cache_lines.specs.Held.{Held}
use Rattle.cache_lines.specs.Kept as lines
use Rattle.cache_lines.specs.Shapes.{Dimensions}
use Rattle.cache_profile.specs.declared.routines.RoutineMisses.{RoutineMisses}
use Rattle.cache_profile.specs.ByRoutine.{all_accesses, by_routine}
use Rattle.cache_profile.specs.LineAccesses.{line_accesses}

-- What is kept of a run: the cache, the open calls, what the accesses come to by routine, and how many steps there were;
-- and what tells with the threads that have calls which event may come next.
pub record KeptMisses : Type 0 where
  pub cache : Held
  pub calls : Stacks
  pub routines : List RoutineMisses
  pub steps : ℕ
  pub progress : ProgressState

-- It is that of this past, which is one that a run can have, for a cache of the shape.
pub record MissesStandFor (shape : Dimensions) (kept : KeptMisses) (past : List Event) : Type 0 where
  pub shape_is : kept.cache.shape ≡ shape
  pub cache : lines.CacheStandsFor kept.cache (line_accesses shape past)
  pub calls : calls.StacksStandFor kept.calls past
  pub routines : kept.routines ≡ by_routine (all_accesses shape past)
  pub steps_are : kept.steps ≡ steps past
  pub progress_is : IsProgressOf kept.progress past

-- the event accesses no word for a thread, and begins no activation
abbrev pub is_quiet : Event → Bool
is_quiet (Step _) = true
is_quiet (Fill _ _) = true
is_quiet (Ret _ _) = true
is_quiet (End _) = true
is_quiet _ = false

-- the thread is one of those whose calls are kept
abbrev pub lives : KeptMisses → ℕ → Bool
lives kept t = is_some (value_of kept.calls.threads t)

-- The event may come next, by what is kept alone: what this shows holds for every past that it stands for.
abbrev pub MayCome : KeptMisses → Event → Type 0
MayCome kept e = IsAllowed e (is_of_one (lives kept) e) kept.progress

-- It is that of some past.
pub record IsOfSome (shape : Dimensions) (kept : KeptMisses) : Type 0 where
  pub past : List Event
  pub now : MissesStandFor shape kept past
