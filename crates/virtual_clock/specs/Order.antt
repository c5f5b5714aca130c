-- The order in which deadlines come: by time, and at the same time by thread.
use Rattle.std.specs.Prelude.{◌≡◌, ℕ, ◌≤◌, ◌<◌, Bool, false, ◌&&◌, ◌||◌, ◌==◌, nat_lt, nat_le, if◌then◌else◌, List, [], map, fold, All, Contains, Option, Some, None}
use Rattle.virtual_clock.specs.declared.deadline.Deadline.{Deadline}

-- the deadline comes before the other
abbrev pub comes_before : Deadline → Deadline → Bool
comes_before d e = nat_lt d.at e.at || ((d.at == e.at) && nat_lt d.tid e.tid)

-- the one that comes first, where one more joins
abbrev pub sooner : Option Deadline → Deadline → Option Deadline
sooner None d = Some d
sooner (Some e) d = Some (if comes_before d e then d else e)

-- the one that comes first of all
abbrev pub first_of : List Deadline → Option Deadline
first_of deadlines = fold sooner None deadlines

-- it, where its time is at most now
abbrev pub due_now : Option Deadline → ℕ → Option Deadline
due_now None now = None
due_now (Some d) now = if nat_le d.at now then Some d else None

abbrev pub due_of : List Deadline → ℕ → Option Deadline
due_of deadlines now = due_now (first_of deadlines) now

-- The deadline is one of the list, and none of them comes before it.
abbrev pub IsFirst : List Deadline → Deadline → Type 0
IsFirst deadlines d = Contains deadlines d × All (λ e. comes_before e d ≡ false) deadlines

-- This is the least time, or there is none.
abbrev pub IsEarliest : List Deadline → Option ℕ → Type 0
IsEarliest deadlines None = deadlines ≡ []
IsEarliest deadlines (Some at) = Contains (map (λ d. d.at) deadlines) at × All (λ d. at ≤ d.at) deadlines

-- The first deadline has come, and this is its thread with its answer; or each time is later.
abbrev pub IsDue : List Deadline → ℕ → Option (ℕ × ℕ) → Type 0
IsDue deadlines now None = All (λ d. now < d.at) deadlines
IsDue deadlines now (Some p) = (d : Deadline) × IsFirst deadlines d × (d.at ≤ now) × (p ≡ (d.tid, d.answer))
