-- The line accesses of a run by routine, each with whether it misses.
use Rattle.std.specs.Prelude.{ℕ, Bool, List, [], ◌∷◌, ◌++◌, length, map, slice_get, Option, Some, None}
use Rattle.std.specs.List.{count_by}
use Rattle.std.specs.Option.{option_map_or}
use Rattle.trace_model.specs.declared.event_kinds.Event.{Event}
use Rattle.trace_model.specs.Activations.{open_calls}
use Rattle.trace_model.specs.Events.{thread_of}
use Rattle.cost_points.specs.Keys.{grouped}
use Rattle.cache_lines.specs.Shapes.{Dimensions}
use Rattle.cache_profile.specs.declared.routines.RoutineMisses.{RoutineMisses}
use Rattle.cache_profile.specs.LineAccesses.{line_accesses, lines_accessed, missed}

-- A line access: the entry of the routine whose it is, and whether it misses.
pub record LineAccess : Type 0 where
  pub entry : ℕ
  pub missed : Bool

-- the entry of the innermost open activation of the thread. One that accesses memory in a run has one; else it is 0
abbrev pub innermost : List Event → ℕ → ℕ
innermost past t = option_map_or (λ a. a.entry) (slice_get (open_calls past t) 0) 0

-- the routine that runs in the thread of the event
abbrev pub routine_at : List Event → Option ℕ → ℕ
routine_at past None = 0
routine_at past (Some t) = innermost past t

-- the line accesses of the event after the past, in their order
abbrev pub accesses_of : Dimensions → Event → List Event → List LineAccess
accesses_of shape e past =
    map (λ m. record { entry = routine_at past (thread_of e); missed = m })
    (missed shape (line_accesses shape past) (lines_accessed shape e))

-- all line accesses, in their order
abbrev pub all_accesses : Dimensions → List Event → List LineAccess
all_accesses shape [] = []
all_accesses shape (e ∷ past) = all_accesses shape past ++ accesses_of shape e past

-- what the accesses of a routine come to
abbrev pub counts_of : ℕ → List LineAccess → RoutineMisses
counts_of entry all = record { entry = entry; accesses = length all; misses = count_by (λ a. a.missed) all }

-- what accesses come to by routine: each entry that has one, rising
abbrev pub by_routine : List LineAccess → List RoutineMisses
by_routine all = grouped (λ a. a.entry) counts_of all
