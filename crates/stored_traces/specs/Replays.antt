-- What is made of a stored trace. A past is the list of its events, the newest first.
use Rattle.std.specs.Prelude.{◌≡◌, ◌⊎◌, ℕ, Bool, List, Result, Ok, Err, None}
use Rattle.run_profile.specs.Points.{HoldsPoints, KeptPoints}
use Rattle.run_profile.specs.Profile.{AreTotalsOf, IsProfileOf, KeptRun}
use Rattle.trace_file.specs.Reading.{HasNext, HasRead, IsTraceRefused, ReaderState}
use Rattle.trace_file.specs.TraceText.{IsTrace}
use Rattle.trace_file.specs.declared.errors.TraceError.{TraceError}
use Rattle.trace_model.specs.declared.event_kinds.Event.{Event}
use Rattle.trace_model.specs.Cut.{cut}
use Rattle.trace_model.specs.Depth.{is_within}
use Rattle.stored_traces.specs.declared.replaying.Replayed.{Replayed}

-- The bytes are the text of a trace with these names and this end. The totals are those of the trace as long as stamps up to
-- the greatest tell its open activations apart, and it is said whether they do so to its end.
pub record IsReplayOf (most : ℕ) (bytes : List ℕ) (r : Replayed) : Type 0 where
  pub past : List Event
  pub trace : IsTrace bytes past r.names.items r.finish
  pub totals : AreTotalsOf most r.totals (cut (is_within most) past)
  pub whole : r.whole ≡ is_within most past

-- how a replay ends: for a refusal, or out of memory, as the reader of traces
abbrev pub Replays : ℕ → List ℕ → Result Replayed TraceError → Type 0
Replays most bytes (Ok r) = IsReplayOf most bytes r
Replays most bytes (Err e) = (past : List Event) × IsTraceRefused bytes past e

-- What goes on: the reader, the profile, and whether all events so far were taken.
pub record Going : Type 0 where
  pub reader : ReaderState
  pub profile : KeptRun KeptPoints
  pub whole : Bool

-- The bytes were read, and this is the profile of their events.
pub record HasReplayed (most : ℕ) (g : Going) (bytes : List ℕ) : Type 0 where
  pub past : List Event
  pub read : HasRead g.reader bytes past
  pub profile : IsProfileOf most HoldsPoints g.profile (cut (is_within most) past)
  pub whole : g.whole ≡ is_within most past

-- The bytes were read, or as much of them as comes before a record for which memory failed, and nothing in them is refused.
abbrev pub IsBeforeRefusal : ReaderState → List ℕ → Type 0
IsBeforeRefusal s bytes = (past : List Event) × ((HasRead s bytes past × (s.refusal ≡ None)) ⊎ HasNext s bytes past)
