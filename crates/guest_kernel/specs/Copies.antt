-- The events of copies from and to the guest, and the room that they take.
use Rattle.std.specs.Prelude.{◌≡◌, ℕ, zero, suc, ◌≤◌, ◌+◌, ◌/◌, List, [], ◌∷◌, ◌++◌, length}
use Rattle.guest_words.specs.Words.{word_count}
use Rattle.trace_model.specs.EventList.{EventList}
use Rattle.trace_model.specs.declared.event_kinds.Event.{Event}
use Rattle.trace_model.specs.declared.event_kinds.Event.TheVariants.{Read, Fill}

-- the event of a copy from the guest; of no byte there is none
abbrev pub read_event : ℕ → ℕ → ℕ → List Event
read_event tid at zero = []
read_event tid at (suc n) = Read tid (at / 4) (word_count at (suc n)) ∷ []

-- the event of a copy to the guest
abbrev pub fill_event : ℕ → ℕ → List Event
fill_event at zero = []
fill_event at (suc n) = Fill (at / 4) (word_count at (suc n)) ∷ []

-- how many words the bytes overlap
abbrev pub words_touched : ℕ → ℕ → ℕ
words_touched at zero = 0
words_touched at (suc n) = word_count at (suc n)

-- no room is lost: a place for an event is still free, or an event has it
abbrev pub KeepsRoom : EventList → EventList → Type 0
KeepsRoom before after = length before.list + before.room ≤ length after.list + after.room

-- the events are added, each in a place that there was room for
pub record Adds (events : List Event) (before after : EventList) : Type 0 where
  pub list_is : after.list ≡ before.list ++ events
  pub room : KeepsRoom before after
