-- The points of a context: those of the ended activations that have it.
use Rattle.std.specs.Prelude.{ℕ, List, [], ◌∷◌, ◌++◌, drop, filter, length, map, Option, Some, None}
use Rattle.std.specs.List.{range_with_len, zip}
use Rattle.trace_model.specs.declared.event_kinds.Event.{Event}
use Rattle.trace_model.specs.declared.slow_profile.Done.{Done}
use Rattle.trace_model.specs.Activations.{ending_calls, open_calls}
use Rattle.trace_model.specs.Events.{thread_of}
use Rattle.trace_model.specs.Profile.{ended}
use Rattle.cost_points.specs.declared.point.Point.{Point}
use Rattle.cost_points.specs.Keys.{grouped}
use Rattle.cost_points.specs.Points.{point_of}
use Rattle.context_tree.specs.Contexts.{context_of, same}

-- the contexts of the activations that the event ends after the past, the innermost first
abbrev pub contexts_ended : Event → List Event → Option ℕ → List (List ℕ)
contexts_ended e past None = []
contexts_ended e past (Some t) = map (λ k. context_of (drop k (open_calls past t))) (range_with_len 0 (length (ending_calls e past t)))

-- each ended activation with its context, in order of ending
abbrev pub done_in_context : List Event → List (List ℕ × Done)
done_in_context [] = []
done_in_context (e ∷ past) = done_in_context past ++ zip (contexts_ended e past (thread_of e)) (ended e past)

-- those of the ended activations that have the context, in order of ending
abbrev pub members_of : List (List ℕ × Done) → List ℕ → List Done
members_of all c = map (λ x. x.1) (filter (λ x. same c x.0) all)

-- the points of activations of one routine, by rising size
abbrev pub points_from : List Done → List Point
points_from members = grouped (λ d. d.size) point_of members

-- the points of a context, where these activations ended
abbrev pub points_of : List (List ℕ × Done) → List ℕ → List Point
points_of all c = points_from (members_of all c)

-- the points of a context, by rising size
abbrev pub points_in : List Event → List ℕ → List Point
points_in past c = points_of (done_in_context past) c
