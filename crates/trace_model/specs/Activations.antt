-- The activations of a thread that have begun and not ended. Only calls and returns speak here, and no access.
use Rattle.std.specs.Prelude.{ℕ, ◌+◌, Bool, false, if◌then◌else◌, nat_eq, nat_lt, List, [], ◌∷◌, ◌++◌, length, take, drop, map, Option, Some, None}
use Rattle.std.specs.List.{position_or_len}
use Rattle.trace_model.specs.declared.event_kinds.Event.{Event}
use Rattle.trace_model.specs.declared.activations.Activation.{Activation}
use Rattle.trace_model.specs.declared.event_kinds.Event.TheVariants.{Call, Ret, Start, End}

-- the activation has this return address; a root has none
abbrev pub is_back : ℕ → Option ℕ → Bool
is_back target None = false
is_back target (Some back) = nat_eq back target

-- how many activations a return to the target ends, given the return addresses of the open ones, the innermost first:
-- those down to the first with that address, and none where no one has it
abbrev pub count_returned : ℕ → List (Option ℕ) → ℕ
count_returned target backs =
    let k = position_or_len (is_back target) backs in
    if nat_lt k (length backs) then k + 1 else 0

-- the activation of thread t that the event begins, which stands at the position
abbrev pub begun : Event → ℕ → ℕ → List Activation
begun (Start tid entry) t at = if nat_eq tid t then record { at = at; entry = entry; back = None } ∷ [] else []
begun (Call tid entry back) t at = if nat_eq tid t then record { at = at; entry = entry; back = Some back } ∷ [] else []
begun _ t at = []

-- how many of thread t's open activations the event ends, given their return addresses, the innermost first
abbrev pub count_ending : Event → ℕ → List (Option ℕ) → ℕ
count_ending (Ret tid target) t backs = if nat_eq tid t then count_returned target backs else 0
count_ending (End tid) t backs = if nat_eq tid t then length backs else 0
count_ending _ t backs = 0

-- the return addresses of the activations, in their order
abbrev pub backs : List Activation → List (Option ℕ)
backs calls = map (λ a. a.back) calls

-- thread t's open activations after the event, which stands at the position, given those before it, the innermost first
abbrev pub calls_after : Event → ℕ → ℕ → List Activation → List Activation
calls_after e t at calls = begun e t at ++ drop (count_ending e t (backs calls)) calls

-- thread t's open activations, the innermost first
abbrev pub open_calls : List Event → ℕ → List Activation
open_calls [] t = []
open_calls (e ∷ past) t = calls_after e t (length past) (open_calls past t)

-- those that the event that follows ends, the innermost first
abbrev pub ending_calls : Event → List Event → ℕ → List Activation
ending_calls e past t = let calls = open_calls past t in take (count_ending e t (backs calls)) calls
