-- The counter and the number of renumberings, as folds over the trace.
use Rattle.std.specs.Prelude.{ℕ, ◌+◌, ◌*◌, not, ◌&&◌, if◌then◌else◌, nat_lt, List, [], ◌∷◌}
use Rattle.trace_model.specs.declared.event_kinds.Event.{Event}
use Rattle.trace_model.specs.WellFormed.{last_step}
use Rattle.trace_model.specs.Depth.{pending}
use Rattle.stamp_table.specs.Ticks.{ticks}

-- the counter after a tick, with `depth` activations open
abbrev pub next_counter : ℕ → ℕ → ℕ → ℕ
next_counter most counter depth = if nat_lt counter most then counter + 1 else 3 * depth + 3

-- the counter after the events, where its greatest is `most`
abbrev pub counter_of : ℕ → List Event → ℕ
counter_of most [] = 0
counter_of most (e ∷ past) =
    let counter = counter_of most past in
    if ticks e (last_step past) then next_counter most counter (pending past) else counter

-- how many of the events come with a tick
abbrev pub tick_count : List Event → ℕ
tick_count [] = 0
tick_count (e ∷ past) = tick_count past + (if ticks e (last_step past) then 1 else 0)

-- how many ticks found the counter at its greatest
abbrev pub renumberings : ℕ → List Event → ℕ
renumberings most [] = 0
renumberings most (e ∷ past) =
    renumberings most past + (if ticks e (last_step past) && not (nat_lt (counter_of most past) most) then 1 else 0)
