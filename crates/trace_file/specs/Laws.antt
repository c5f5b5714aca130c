-- Laws of the text of traces.
use Rattle.std.specs.Prelude.{◌≡◌, ◌≢◌, ℕ, List, ◌++◌}
use Rattle.guest_words.specs.declared.endings.Finish.{Finish}
use Rattle.trace_model.specs.declared.event_kinds.Event.{Event}
use Rattle.trace_file.specs.declared.errors.TraceError.{TraceError}
use Rattle.trace_file.specs.declared.errors.TraceError.TheVariants as errors
use Rattle.trace_file.specs.Reading.{Begins, IsTraceRefused}
use Rattle.trace_file.specs.TraceText.{IsTrace, Names}

-- Different traces have different texts.
abbrev pub TextIsOfOneTrace : Type 0
TextIsOfOneTrace =
    (bytes : List ℕ) (past past' : List Event) (names names' : Names) (f f' : Finish) → IsTrace bytes past names f → IsTrace bytes past' names' f' →
    (past ≡ past') × (names ≡ names') × (f ≡ f')

-- Unless memory runs out, bytes have at most one refusal, with one list of events before it.
abbrev pub BytesAreRefusedInOneWay : Type 0
BytesAreRefusedInOneWay =
    (bytes : List ℕ) (past past' : List Event) (e e' : TraceError) → IsTraceRefused bytes past e → IsTraceRefused bytes past' e' → e ≢ errors.Memory → e' ≢ errors.Memory →
    (e ≡ e') × (past ≡ past')

-- The text of a trace is refused only when out of memory.
abbrev pub TracesAreNotRefused : Type 0
TracesAreNotRefused =
    (bytes : List ℕ) (past past' : List Event) (names : Names) (f : Finish) (e : TraceError) → IsTrace bytes past names f → IsTraceRefused bytes past' e → e ≡ errors.Memory

-- the earlier past is a beginning of the later one
abbrev pub IsEarlier : List Event → List Event → Type 0
IsEarlier past past' = (more : List Event) × (past' ≡ more ++ past)

-- The events of some records at the beginning of bytes are the first of those that are read of the bytes.
abbrev pub BeginningsAreRead : Type 0
BeginningsAreRead =
    (bytes : List ℕ) (past past' : List Event) (names : Names) (f : Finish) → Begins bytes past → IsTrace bytes past' names f → IsEarlier past past'

abbrev pub BeginningsAreReadBeforeRefusals : Type 0
BeginningsAreReadBeforeRefusals =
    (bytes : List ℕ) (past past' : List Event) (e : TraceError) → Begins bytes past → IsTraceRefused bytes past' e → e ≢ errors.Memory → IsEarlier past past'
