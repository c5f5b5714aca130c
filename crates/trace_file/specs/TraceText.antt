-- The text of a trace. A past is the list of its events, the newest first.
use Rattle.std.specs.Prelude.{◌≡◌, ℕ, ◌<◌, List, [], ◌∷◌, ◌++◌, codes, map, reverse, Option, Some, None, AllPairs}
use Rattle.std.specs.List.{flat_map, AllByRecursion}
use Rattle.guest_words.specs.declared.endings.Finish.{Finish}
use Rattle.trace_model.specs.declared.event_kinds.Event.{Event}
use Rattle.trace_model.specs.WellFormed.{IsWellFormed}
use Rattle.trace_order.specs.Order.{IsOrderOf, OrderState}
use Rattle.trace_file.specs.declared.records.Record.{Record}
use Rattle.trace_file.specs.declared.records.Record.TheVariants.{OfEvent, OfName, OfFinish}
use Rattle.trace_file.specs.Records.{Fits, record_bytes}

-- the line that the text begins with
abbrev pub magic : List ℕ
magic = codes "aprof trace 1" ++ 10 ∷ []

-- entries with their names
abbrev pub Names : Type 0
Names = List (ℕ × List ℕ)

-- a record for each event, the oldest first
abbrev pub event_records : List Event → List Record
event_records past = map OfEvent (reverse past)

-- a record for each name
abbrev pub name_records : Names → List Record
name_records names = map (λ x. OfName x.0 x.1) names

-- What records say together: the events, the names, and how the run ended, where that is said.
pub record Told : Type 0 where
  pub past : List Event
  pub names : Names
  pub finish : Option Finish

abbrev pub finish_records : Option Finish → List Record
finish_records None = []
finish_records (Some f) = OfFinish f ∷ []

-- their records: those of the events, those of the names, and the one of the end
abbrev pub records : Told → List Record
records t = event_records t.past ++ (name_records t.names ++ finish_records t.finish)

-- the line and the bytes of these records
abbrev pub text_of : List Record → List ℕ
text_of rs = magic ++ flat_map record_bytes rs

abbrev pub told_text : Told → List ℕ
told_text t = text_of (records t)

-- a whole trace: its records, and its text
abbrev pub whole : List Event → Names → Finish → Told
whole past names f = record { past = past; names = names; finish = Some f }

abbrev pub whole_records : List Event → Names → Finish → List Record
whole_records past names f = records (whole past names f)

abbrev pub trace_text : List Event → Names → Finish → List ℕ
trace_text past names f = told_text (whole past names f)

abbrev pub IsRising : Names → Type 0
IsRising names = AllPairs (λ x y. x.0 < y.0) names

-- The events are those of a run so far, the entries rise, and each record fits.
pub record IsTold (t : Told) : Type 0 where
  pub formed : IsWellFormed t.past
  pub rising : IsRising t.names
  pub fits : AllByRecursion Fits (records t)

-- The bytes are the text of this trace.
pub record IsTrace (bytes : List ℕ) (past : List Event) (names : Names) (f : Finish) : Type 0 where
  pub told : IsTold (whole past names f)
  pub text : bytes ≡ trace_text past names f

-- What is kept of a text that is being written: its bytes, and the order of its events.
pub record Writing : Type 0 where
  pub text : List ℕ
  pub order : OrderState

-- The bytes are the line and the records of these events.
pub record IsTextOf (w : Writing) (past : List Event) : Type 0 where
  pub fits : AllByRecursion Fits (event_records past)
  pub text : w.text ≡ text_of (event_records past)
  pub order : IsOrderOf w.order past
