-- What a profiler keeps, in the words of its parts, and the stamp table that it is.
use Rattle.std.specs.Prelude.{ℕ, ◌+◌, List, map, reverse, Option}
use Rattle.shadow_pages.specs.Pages.{Page, stamp_at}
use Rattle.stamp_renumber.specs.Counted.{steps_added, with_calls}
use Rattle.stamp_renumber.specs.Threads.{Live, Stamped, calls_of}
use Rattle.stamp_table.specs.Table.{Thread, Table}

-- The counter; the pages of the write stamps and of the marks; the live threads, with their frames, stamps and calls; the rest is
-- as in the table.
pub record State : Type 0 where
  pub counter : ℕ
  pub writes : List Page
  pub marks : List Page
  pub live : Live
  pub last : Option ℕ
  pub greatest : ℕ
  pub weight : ℕ
  pub renumbered : ℕ
  -- where the running thread's access to a word has this stamp or a greater one, no one else wrote the word since
  pub settled : ℕ

-- a thread as the table has it: the innermost frame first
abbrev pub as_thread : Stamped → Thread
as_thread s = record { frames = reverse s.frames; calls = s.calls.list; access = stamp_at s.pages; counts = s.calls.counts }

abbrev pub as_threads : List (ℕ × Stamped) → List (ℕ × Thread)
as_threads live = map (λ x. (x.0, as_thread x.1)) live

abbrev pub table_of_state : State → Table
table_of_state s = record {
  counter = s.counter;
  write = stamp_at s.writes;
  marks = stamp_at s.marks;
  threads = as_threads s.live.threads;
  last = s.last;
  greatest = s.greatest;
  weight = s.weight;
  renumbered = s.renumbered;
}

-- after more steps of the thread that made the last one
abbrev pub stepped : ℕ → ℕ → State → State
stepped t n s = record s { live = with_calls s.live t (steps_added n (calls_of s.live.threads t)); weight = s.weight + n }
