-- What beside the live threads tells which event may come next. A past is the list of the events so far, the newest first.
use Rattle.std.specs.Prelude.{◌≡◌, ℕ, ◌+◌, ◌<◌, Bool, true, false, List, Option, Some}
use Rattle.std.specs.Option.{option_map_or}
use Rattle.guest_words.specs.declared.limits.TheConstants.{TRACE_WEIGHT}
use Rattle.trace_model.specs.declared.event_kinds.Event.{Event}
use Rattle.trace_model.specs.declared.event_kinds.Event.TheVariants.{Step, Read, Write, Fill, Call, Ret, Start, End}
use Rattle.trace_model.specs.Events.{thread_of}
use Rattle.trace_model.specs.WellFormed.{AreWords, IsWellFormed, greatest_start, last_step, weight, weight_of}

-- the thread of the last step, the greatest number that started, and the weight
pub record ProgressState : Type 0 where
  pub last : Option ℕ
  pub greatest : ℕ
  pub weight : ℕ

-- It is that of the past, which is one that a run can have.
pub record IsProgressOf (p : ProgressState) (past : List Event) : Type 0 where
  pub last : p.last ≡ last_step past
  pub greatest : p.greatest ≡ greatest_start past
  pub weight : p.weight ≡ weight past
  pub formed : IsWellFormed past

-- the event is of a thread, which is one of these
abbrev pub is_of_one : (ℕ → Bool) → Event → Bool
is_of_one live e = option_map_or live (thread_of e) false

-- what `MayFollow` says of the past, where it is said whether the thread of the event lives
abbrev pub Allows : Event → Bool → ProgressState → Type 0
Allows (Step tid) lives p = lives ≡ true
Allows (Read tid first count) lives p = ((lives ≡ true) × (p.last ≡ Some tid)) × AreWords first count
Allows (Write tid first count) lives p = ((lives ≡ true) × (p.last ≡ Some tid)) × AreWords first count
Allows (Fill first count) lives p = AreWords first count
Allows (Call tid _ _) lives p = (lives ≡ true) × (p.last ≡ Some tid)
Allows (Ret tid _) lives p = (lives ≡ true) × (p.last ≡ Some tid)
Allows (Start tid _) lives p = p.greatest < tid
Allows (End tid) lives p = lives ≡ true

-- and the whole stays light
abbrev pub IsAllowed : Event → Bool → ProgressState → Type 0
IsAllowed e lives p = Allows e lives p × (p.weight + weight_of e < TRACE_WEIGHT)

-- the progress with one more event
abbrev pub passed : Event → ProgressState → ProgressState
passed (Step tid) p = record { last = Some tid; greatest = p.greatest; weight = p.weight + 1 }
passed (Start tid _) p = record { last = p.last; greatest = tid; weight = p.weight + 1 }
passed e p = record { last = p.last; greatest = p.greatest; weight = p.weight + weight_of e }

-- and with steps of a thread in a row
abbrev pub passed_steps : ℕ → ℕ → ProgressState → ProgressState
passed_steps tid count p = record { last = Some tid; greatest = p.greatest; weight = p.weight + count }
