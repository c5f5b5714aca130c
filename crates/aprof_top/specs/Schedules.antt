-- What is read of a schedule.
use Rattle.std.specs.Prelude.{ℕ, List}
use Rattle.std.specs.List.{AllByRecursion}
use Rattle.thread_sched.specs.declared.entry.Entry.{Entry}
use Rattle.thread_sched.specs.ScheduleText.{IsBadLine, IsEntry, IsText}

-- Its entries, or the number of the first line that is not an entry's.
pub data Reading : Type 0 where
  Turns : List Entry → Reading
  BadLine : ℕ → Reading

-- a text reads so
abbrev pub Reads : List ℕ → Reading → Type 0
Reads text (Turns entries) = AllByRecursion IsEntry entries × IsText text entries
Reads text (BadLine line) = IsBadLine text line
