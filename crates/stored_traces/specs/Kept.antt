-- What is kept of a run's trace. A past is the list of the events so far, the newest first.
use Rattle.std.specs.Prelude.{◌≡◌, ℕ, ◌<◌, ◌≤◌, true, List, ◌++◌, length, Option, Some, None}
use Rattle.std.specs.Option.{option_to_list}
use Rattle.cost_points.specs.Keys.{insert_rising}
use Rattle.call_tracker.specs.CallStacks.{StacksStandFor, Stacks}
use Rattle.stamps.specs.declared.width.StampBits.TheVariants.{B32}
use Rattle.stamps.specs.Widths.{greatest}
use Rattle.trace_file.specs.TraceText.{IsTextOf, Writing, event_records, text_of}
use Rattle.trace_model.specs.declared.event_kinds.Event.{Event}
use Rattle.trace_model.specs.Depth.{is_within}
use Rattle.trace_model.specs.WellFormed.{IsWellFormed}
use Rattle.stored_traces.specs.Entries.{entries_begun}
use Rattle.guest_words.specs.declared.limits.TheConstants.{TRACE_BYTES}

-- The text as far as it is written, and the newest event, if its record is still to come; the entries, rising, and one that is
-- still to come among them.
pub record Written : Type 0 where
  pub text : Writing
  pub next : Option Event
  pub entries : List ℕ
  pub entry : Option ℕ

-- the entries with the one that is still to come
abbrev pub all_entries : List ℕ → Option ℕ → List ℕ
all_entries entries None = entries
all_entries entries (Some entry) = insert_rising entry entries

-- They are those of this past.
pub record IsWrittenOf (w : Written) (past : List Event) : Type 0 where
  pub earlier : List Event
  pub all : past ≡ option_to_list w.next ++ earlier
  pub text : IsTextOf w.text earlier
  pub entries : all_entries w.entries w.entry ≡ entries_begun past

-- The open calls of all threads, and what is written, unless that became too long.
pub record KeptTrace : Type 0 where
  pub stacks : Stacks
  pub written : Option Written

-- the text of these events is longer than the limit
abbrev pub IsTooLong : List Event → Type 0
IsTooLong past = TRACE_BYTES < length (text_of (event_records past))

abbrev pub HasText : Option Written → List Event → Type 0
HasText None past = IsTooLong past
HasText (Some w) past = IsWrittenOf w past

-- It is the trace of this past.
pub record IsTraceOf (kept : KeptTrace) (past : List Event) : Type 0 where
  pub stacks : StacksStandFor kept.stacks past
  pub within : is_within (greatest B32) past ≡ true
  pub text : HasText kept.written past

-- It is the trace of some past that a run can have.
pub record IsTraceOfFormed (kept : KeptTrace) : Type 0 where
  pub past : List Event
  pub now : IsTraceOf kept past
  pub formed : IsWellFormed past

-- nothing is still to come, and the text is no longer than the limit
abbrev pub AreSettled : Option Written → Type 0
AreSettled None = Unit {0}
AreSettled (Some w) = (w.next ≡ None) × (w.entry ≡ None) × (length w.text.text ≤ TRACE_BYTES)

abbrev pub IsSettled : KeptTrace → Type 0
IsSettled kept = AreSettled kept.written
