-- How many activations are open at once, and whether stamps can tell them apart.
use Rattle.std.specs.Prelude.{ℕ, ◌+◌, ◌-◌, ◌*◌, Bool, ◌&&◌, nat_le, List, [], ◌∷◌, length, Option, Some, None}
use Rattle.trace_model.specs.declared.event_kinds.Event.{Event}
use Rattle.trace_model.specs.declared.event_kinds.Event.TheVariants.{Start, Call}
use Rattle.trace_model.specs.Events.{thread_of}
use Rattle.trace_model.specs.Activations.{ending_calls}

-- a start or a call begins one activation
abbrev pub count_begun : Event → ℕ
count_begun (Start _ _) = 1
count_begun (Call _ _ _) = 1
count_begun _ = 0

-- how many activations of the thread, if there is one, the event ends after the past
abbrev pub count_ended : Event → List Event → Option ℕ → ℕ
count_ended e past None = 0
count_ended e past (Some t) = length (ending_calls e past t)

-- the number of open activations of all threads
abbrev pub pending : List Event → ℕ
pending [] = 0
pending (e ∷ past) = (pending past - count_ended e past (thread_of e)) + count_begun e

-- three stamps for each open activation and three more are at most the greatest stamp, now and after each earlier event
abbrev pub is_within : ℕ → List Event → Bool
is_within most [] = nat_le 3 most
is_within most (e ∷ past) = nat_le (3 * (pending (e ∷ past) + 1)) most && is_within most past
