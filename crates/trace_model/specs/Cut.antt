-- Where a trace is cut. A past is the list of the events so far, the newest first.
use Rattle.std.specs.Prelude.{◌≡◌, Bool, true, if◌then◌else◌, List, [], ◌∷◌, ◌++◌, reverse}
use Rattle.trace_model.specs.declared.event_kinds.Event.{Event}

-- the past with more events, which come in this order
abbrev pub past_after : List Event → List Event → List Event
past_after past events = reverse events ++ past

-- the longest beginning of the trace that fits
abbrev pub cut : (List Event → Bool) → List Event → List Event
cut fits [] = []
cut fits (e ∷ past) = if fits (e ∷ past) then e ∷ past else cut fits past

-- What fits does so without its newest event.
abbrev pub IsPrefixClosed : (List Event → Bool) → Type 0
IsPrefixClosed fits = (e : Event) (past : List Event) → fits (e ∷ past) ≡ true → fits past ≡ true
