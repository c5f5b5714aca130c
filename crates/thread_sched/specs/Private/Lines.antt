-- What a line of a schedule's text says, and why it is refused.
use Rattle.std.specs.Prelude.{◌≡◌, ℕ, List}
use Rattle.thread_sched.specs.declared.entry.Entry.{Entry}
use Rattle.thread_sched.specs.declared.schedule.ScheduleError.{ScheduleError}
use Rattle.thread_sched.specs.declared.schedule.ScheduleError.TheVariants.{BadLine, Memory}
use Rattle.thread_sched.specs.ScheduleText.{IsEntry, entry_text, IsNoEntry}

-- the bytes are the text of this entry, and of no other
pub record Says (bytes : List ℕ) (e : Entry) : Type 0 where
  pub fits : IsEntry e
  pub text : bytes ≡ entry_text e
  pub alone : (other : Entry) → IsEntry other → bytes ≡ entry_text other → other ≡ e

-- why a line of this number is refused
abbrev pub RefusesLine : ℕ → List ℕ → ScheduleError → Type 0
RefusesLine number bytes (BadLine n) = (n ≡ number) × IsNoEntry bytes
RefusesLine number bytes Memory = (e : Entry) × Says bytes e
