-- Reading a trace: how far bytes lead, and why they lead no further. A past is the list of the events, the newest first.
use Rattle.std.specs.Prelude.{◌≡◌, ◌≢◌, ◌⊎◌, ℕ, ◌+◌, ◌^◌, ◌<◌, List, [], ◌∷◌, ◌++◌, length, take, Option, Some, None}
use Rattle.guest_words.specs.declared.endings.Finish.{Finish}
use Rattle.trace_model.specs.declared.event_kinds.Event.{Event}
use Rattle.trace_model.specs.Cut.{past_after}
use Rattle.trace_model.specs.WellFormed.{IsWellFormed}
use Rattle.trace_order.specs.Order.{IsOrderOf, OrderState}
use Rattle.trace_file.specs.declared.records.Record.{Record}
use Rattle.trace_file.specs.declared.records.Record.TheVariants.{OfEvent, OfName, OfFinish}
use Rattle.trace_file.specs.declared.errors.TraceError.{TraceError}
use Rattle.trace_file.specs.declared.errors.TraceError.TheVariants as errors
use Rattle.trace_file.specs.Records.{Fits, record_bytes}
use Rattle.trace_file.specs.Pieces.{IsBegun, IsNone, IsRecord}
use Rattle.trace_file.specs.TraceText.{IsRising, IsTold, Names, Told, magic, told_text}

-- The bytes are the text of what is told, and a rest behind it.
pub record Leads (bytes : List ℕ) (t : Told) (rest : List ℕ) : Type 0 where
  pub told : IsTold t
  pub text : bytes ≡ told_text t ++ rest

-- the bytes are a beginning of the first line, and not all of it
pub record IsInLine (bytes : List ℕ) : Type 0 where
  pub more : List ℕ
  pub some : more ≢ []
  pub whole : bytes ++ more ≡ magic

-- Nothing fails in a rest: behind the end it is empty, and before that it is the beginning of a record.
abbrev pub GoesOn : Option Finish → List ℕ → Type 0
GoesOn None rest = IsBegun IsRecord rest
GoesOn (Some f) rest = rest ≡ []

-- The rest is no beginning of a record, or it begins behind the end.
abbrev pub IsMisformed : Option Finish → List ℕ → Type 0
IsMisformed None rest = IsNone IsRecord rest
IsMisformed (Some f) rest = rest ≢ []

-- The record may not come next: an event comes behind a name or breaks the order of events, or an entry doesn't rise.
abbrev pub IsOutOfOrder : Told → Record → Type 0
IsOutOfOrder t (OfEvent e) = (t.names ≢ []) ⊎ (IsWellFormed (e ∷ t.past) → ⊥)
IsOutOfOrder t (OfName entry name) = IsRising (t.names ++ (entry, name) ∷ []) → ⊥
IsOutOfOrder t (OfFinish f) = ⊥

-- The first record that fails begins behind what is told, at the place, and it has no form.
pub record FailsForm (bytes : List ℕ) (past : List Event) (at : ℕ) : Type 0 where
  pub told : Told
  pub rest : List ℕ
  pub leads : Leads bytes told rest
  pub events : told.past ≡ past
  pub place : at ≡ length (told_text told)
  pub misformed : IsMisformed told.finish rest

-- The first record that fails begins behind what is told, at the place; it is whole, and may not come there.
pub record FailsOrder (bytes : List ℕ) (past : List Event) (at : ℕ) : Type 0 where
  pub told : Told
  pub first : Record
  pub rest : List ℕ
  pub leads : Leads bytes told (record_bytes first ++ rest)
  pub events : told.past ≡ past
  pub place : at ≡ length (told_text told)
  pub fits : Fits first
  pub unfinished : told.finish ≡ None
  pub misplaced : IsOutOfOrder told first

-- Nothing fails, and the trace is not whole.
pub record IsShort (bytes : List ℕ) (past : List Event) : Type 0 where
  pub told : Told
  pub rest : List ℕ
  pub leads : Leads bytes told rest
  pub events : told.past ≡ past
  pub unfinished : told.finish ≡ None
  pub begun : IsBegun IsRecord rest

-- These are the events of records at the beginning of the bytes.
pub record Begins (bytes : List ℕ) (past : List Event) : Type 0 where
  pub told : Told
  pub rest : List ℕ
  pub leads : Leads bytes told rest
  pub events : told.past ≡ past

-- The bytes are refused so, and these are the events of the records before the first that fails. Where memory runs out, they
-- are the events of some records at the beginning.
abbrev pub IsTraceRefused : List ℕ → List Event → TraceError → Type 0
IsTraceRefused bytes past errors.Magic = ((more rest : List ℕ) → bytes ++ more ≢ magic ++ rest) × (past ≡ [])
IsTraceRefused bytes past (errors.Record at) = FailsForm bytes past at
IsTraceRefused bytes past (errors.Order at) = FailsOrder bytes past at
IsTraceRefused bytes past errors.Short = (IsInLine bytes × (past ≡ [])) ⊎ IsShort bytes past
IsTraceRefused bytes past errors.Memory = (past ≡ []) ⊎ Begins bytes past

-- What a reader keeps: how many bytes of the first line it has read; the bytes of the record that is begun, and its place;
-- what tells the order of the events; the names, how the run ended, and a refusal.
pub record ReaderState : Type 0 where
  pub line : ℕ
  pub held : List ℕ
  pub at : ℕ
  pub order : OrderState
  pub names : Names
  pub finish : Option Finish
  pub refusal : Option TraceError

-- what its records say
abbrev pub told_by : ReaderState → List Event → Told
told_by s past = record { past = past; names = s.names; finish = s.finish }

-- It is at the first line, and no byte of it differs.
pub record IsAtLine (s : ReaderState) (bytes : List ℕ) (past : List Event) : Type 0 where
  pub line : s.line < length magic
  pub read : bytes ≡ take s.line magic
  pub none : past ≡ []
  pub order : IsOrderOf s.order []
  pub names : s.names ≡ []
  pub finish : s.finish ≡ None
  pub held : s.held ≡ []
  pub place : s.at ≡ s.line

-- It is behind the first line, and nothing fails so far.
pub record IsAtRecord (s : ReaderState) (bytes : List ℕ) (past : List Event) : Type 0 where
  pub line : s.line ≡ length magic
  pub leads : Leads bytes (told_by s past) s.held
  pub order : IsOrderOf s.order past
  pub place : s.at ≡ length (told_text (told_by s past))
  pub goes_on : GoesOn s.finish s.held

abbrev pub IsReading : ReaderState → List ℕ → List Event → Type 0
IsReading s bytes past = IsAtLine s bytes past ⊎ IsAtRecord s bytes past

-- It has read these bytes, and these are the events that it appended: nothing fails so far, or it has refused them.
abbrev pub HasReadBy : Option TraceError → ReaderState → List ℕ → List Event → Type 0
HasReadBy None s bytes past = IsReading s bytes past
HasReadBy (Some e) s bytes past = IsTraceRefused bytes past e × (e ≢ errors.Short)

abbrev pub HasRead : ReaderState → List ℕ → List Event → Type 0
HasRead s bytes past = HasReadBy s.refusal s bytes past

-- There is what it has read, and with the piece it is fewer than 2^64 bytes.
pub record MayFeed (s : ReaderState) (piece : List ℕ) : Type 0 where
  pub bytes : List ℕ
  pub past : List Event
  pub now : HasRead s bytes past
  pub room : length bytes + length piece < 2 ^ 64

-- Whatever it had read, it has read that and the piece, and the events of that and those that are appended.
pub record HasFed (old new : ReaderState) (piece : List ℕ) (es es' : List Event) : Type 0 where
  pub more : List Event
  pub appended : es' ≡ es ++ more
  pub read : (bytes : List ℕ) (past : List Event) → HasRead old bytes past → HasRead new (bytes ++ piece) (past_after past more)

-- Behind what is told the bytes have a whole record, which may come there.
pub record HasNext (s : ReaderState) (bytes : List ℕ) (past : List Event) : Type 0 where
  pub next : Record
  pub rest : List ℕ
  pub leads : Leads bytes (told_by s past) (record_bytes next ++ rest)
  pub fits : Fits next
  pub unfinished : s.finish ≡ None
  pub in_order : IsOutOfOrder (told_by s past) next → ⊥

-- It has read of a piece what comes before a record that it can't allocate.
pub record RunsOutOfMemory (At : ReaderState → List ℕ → List Event → Type 0) (old new : ReaderState) (piece : List ℕ) (es es' : List Event) : Type 0 where
  pub more : List Event
  pub appended : es' ≡ es ++ more
  pub next : (bytes : List ℕ) (past : List Event) → At old bytes past → HasNext new (bytes ++ piece) (past_after past more)
