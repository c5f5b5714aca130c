-- What a past says of words and of open activations, in the form in which a table keeps it.
use Rattle.std.specs.Prelude.{ℕ, ◌+◌, pos, Bool, false, not, ◌&&◌, ◌||◌, List, [], ◌∷◌}
use Rattle.trace_model.specs.declared.event_kinds.Event.{Event}
use Rattle.trace_model.specs.declared.event_kinds.Event.TheVariants.{Write, Fill}
use Rattle.trace_model.specs.declared.event_kinds.Touch.{Touch}
use Rattle.trace_model.specs.declared.activations.Activation.{Activation}
use Rattle.trace_model.specs.Events.{covers}
use Rattle.trace_model.specs.Sizes.{since, before, bare, cost}
use Rattle.trace_model.specs.Causes.{Plain, OtherThread, Kernel, is_by, part, caused}
use Rattle.shadow_stack.specs.declared.sums.Sums.{Sums}
use Rattle.call_tracker.specs.ThreadCalls.{CountedCall, Counts}

-- the event writes the word
abbrev pub writes_word : Event → ℕ → Bool
writes_word (Write tid first count) l = covers first count l
writes_word (Fill first count) l = covers first count l
writes_word _ l = false

-- someone wrote the word
abbrev pub is_written : List Event → ℕ → Bool
is_written [] l = false
is_written (e ∷ past) l = writes_word e l || is_written past l

-- the last event that wrote the word is a fill
abbrev pub is_filled : List Event → ℕ → Bool
is_filled [] l = false
is_filled (Write _ first count ∷ past) l = not (covers first count l) && is_filled past l
is_filled (Fill first count ∷ past) l = covers first count l || is_filled past l
is_filled (_ ∷ past) l = is_filled past l

-- someone else touched the word last
abbrev pub is_by_others : Touch → Bool
is_by_others touch = is_by OtherThread touch || is_by Kernel touch

-- what the thread counts over the whole past
abbrev pub counts_of : List Event → ℕ → Counts
counts_of past t = record { steps = cost past t; thread = caused OtherThread past t; kernel = caused Kernel past t }

-- what is kept of an open activation: the counts are those with the event that began it
abbrev pub call_of : List Event → ℕ → Activation → CountedCall
call_of past t a = record { entry = a.entry; back = a.back; earlier = counts_of (before past (a.at + 1)) t }

-- the plain part of its size, and its plain read memory size
abbrev pub sums_of : List Event → ℕ → Activation → Sums
sums_of past t a = record { plain = pos (part Plain (since past a.at) (before past (a.at + 1)) t); bare = pos (bare (since past a.at) t) }
