-- The entries of the activations that began. A past is the list of the events so far, the newest first.
use Rattle.std.specs.Prelude.{ℕ, List, Option, Some, None}
use Rattle.std.specs.List.{flat_map}
use Rattle.std.specs.Option.{option_to_list}
use Rattle.trace_model.specs.declared.event_kinds.Event.{Event}
use Rattle.trace_model.specs.declared.event_kinds.Event.TheVariants.{Call, Start}
use Rattle.cost_points.specs.Keys.{rising}

-- the entry of the activation that the event begins
abbrev pub entry_begun : Event → Option ℕ
entry_begun (Start tid entry) = Some entry
entry_begun (Call tid entry back) = Some entry
entry_begun _ = None

-- those of a past, rising, each once
abbrev pub entries_begun : List Event → List ℕ
entries_begun past = rising (flat_map (λ e. option_to_list (entry_begun e)) past)
