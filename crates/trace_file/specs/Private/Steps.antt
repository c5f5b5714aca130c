-- Steps of a reader.
use Rattle.std.specs.Prelude.{◌≡◌, ◌≢◌, ℕ, ◌+◌, ◌<◌, ◌≤◌, ◌^◌, List, [], ◌∷◌, ◌++◌, length, None, Result, Ok, Err}
use Rattle.trace_model.specs.declared.event_kinds.Event.{Event}
use Rattle.trace_model.specs.Cut.{past_after}
use Rattle.trace_order.specs.Order.{IsOrderOf}
use Rattle.trace_file.specs.declared.records.Record.{Record}
use Rattle.trace_file.specs.declared.records.Record.TheVariants.{OfEvent}
use Rattle.trace_file.specs.declared.errors.TraceError.{TraceError}
use Rattle.trace_file.specs.declared.errors.TraceError.TheVariants as errors
use Rattle.trace_file.specs.Reading.{IsOutOfOrder, IsTraceRefused, ReaderState, told_by}
use Rattle.trace_file.specs.TraceText.{IsTold, magic, records}

-- the events that a record says
abbrev pub said : Record → List Event
said (OfEvent e) = e ∷ []
said r = []

-- It is told so far, and may go on.
pub record IsOpen (s : ReaderState) (past : List Event) : Type 0 where
  pub told : IsTold (told_by s past)
  pub order : IsOrderOf s.order past
  pub finish : s.finish ≡ None

-- The record is added.
pub record IsAdded (old new : ReaderState) (past : List Event) (r : Record) : Type 0 where
  pub told : IsTold (told_by new (past_after past (said r)))
  pub order : IsOrderOf new.order (past_after past (said r))
  pub records : records (told_by new (past_after past (said r))) ≡ records (told_by old past) ++ r ∷ []
  pub line : new.line ≡ old.line

-- why a record is not added
abbrev pub IsNotAdded : ReaderState → List Event → Record → TraceError → Type 0
IsNotAdded s past r (errors.Order at) = (at ≡ s.at) × IsOutOfOrder (told_by s past) r
IsNotAdded s past r errors.Memory = Unit {0}
IsNotAdded s past r e = ⊥

-- A record that is refused when out of memory may come next.
abbrev pub IsInOrder : ReaderState → List Event → Record → TraceError → Type 0
IsInOrder s past r errors.Memory = IsOutOfOrder (told_by s past) r → ⊥
IsInOrder s past r e = Unit {0}

-- It is added, and the next record begins behind its `size` bytes.
pub record IsTaken (size : ℕ) (old new : ReaderState) (past : List Event) (r : Record) : Type 0 where
  pub added : IsAdded old new past r
  pub held : new.held ≡ []
  pub at : new.at ≡ old.at + size

-- It is behind the first line and before the end, and no record is begun.
pub record IsBetween (s : ReaderState) : Type 0 where
  pub line : length magic ≤ s.line
  pub finish : s.finish ≡ None
  pub held : s.held ≡ []

-- It goes on, or it has refused.
abbrev pub GoesOnOr : (ReaderState → List ℕ → List Event → Type 0) → ReaderState → List ℕ → List Event → Result (Unit {0}) TraceError → Type 0
GoesOnOr At s bytes past (Ok u) = At s bytes past
GoesOnOr At s bytes past (Err e) = IsTraceRefused bytes past e × (e ≢ errors.Short)

-- It has read more bytes, and appended events.
pub record IsFed (At After : ReaderState → List ℕ → List Event → Type 0) (old new : ReaderState) (piece : List ℕ) (es es' : List Event) (result : Result (Unit {0}) TraceError) : Type 0 where
  pub more : List Event
  pub appended : es' ≡ es ++ more
  pub reads : (bytes : List ℕ) (past : List Event) → At old bytes past → GoesOnOr After new (bytes ++ piece) (past_after past more) result

-- It has read some bytes, and there can be one more.
pub record MayReadByte (At : ReaderState → List ℕ → List Event → Type 0) (s : ReaderState) : Type 0 where
  pub bytes : List ℕ
  pub past : List Event
  pub now : At s bytes past
  pub room : length bytes + 1 < 2 ^ 64
