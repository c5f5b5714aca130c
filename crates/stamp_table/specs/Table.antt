-- The stamp table, and what each event makes of it. The frames and the calls of a thread come the innermost first.
use Rattle.std.specs.Prelude.{ℕ, ◌+◌, if◌then◌else◌, List, [], ◌∷◌, ◌++◌, drop, map, Option, Some, None, count_by}
use Rattle.std.specs.List.{range_with_len}
use Rattle.std.specs.Option.{option_map_or}
use Rattle.guest_words.specs.ByThread.{value_of, with_value, without_thread}
use Rattle.trace_model.specs.declared.event_kinds.Event.{Event}
use Rattle.trace_model.specs.declared.event_kinds.Event.TheVariants.{Step, Read, Write, Fill, Call, Ret, Start, End}
use Rattle.trace_model.specs.Events.{covers}
use Rattle.trace_model.specs.Activations.{count_ending}
use Rattle.trace_model.specs.WellFormed.{weight_of}
use Rattle.call_tracker.specs.ThreadCalls.{Counts, CountedCall, no_counts}
use Rattle.stamp_lanes.specs.Plain.{Place, is_by_thread, is_by_kernel}
use Rattle.shadow_stack.specs.Frames.{Frame, new_frame}
use Rattle.stamp_table.specs.Frames.{frames_after_reads, frames_after_pops}

-- A thread: its frames and open calls, which are as many; the stamp of its last access of each word, 0 for none; its counts.
pub record Thread : Type 0 where
  pub frames : List Frame
  pub calls : List CountedCall
  pub access : ℕ → ℕ
  pub counts : Counts

-- The table: the counter; for each word the stamp of the latest write, 0 for none, and a mark, which is 1 where the kernel
-- made it; the live threads by rising number; and what else tells which event may follow.
pub record Table : Type 0 where
  pub counter : ℕ
  pub write : ℕ → ℕ
  pub marks : ℕ → ℕ
  pub threads : List (ℕ × Thread)
  pub last : Option ℕ
  pub greatest : ℕ
  pub weight : ℕ
  -- how often the stamps were renumbered
  pub renumbered : ℕ

abbrev pub empty_table : Table
empty_table = record { counter = 0; write = λ l. 0; marks = λ l. 0; threads = []; last = None; greatest = 0; weight = 0; renumbered = 0 }

-- the words of a range get the stamp
abbrev pub stamped : ℕ → ℕ → ℕ → (ℕ → ℕ) → ℕ → ℕ
stamped stamp first count stamps = λ l. if covers first count l then stamp else stamps l

-- the stamps and the marks of words, as a thread's read finds them
abbrev pub places_read : Table → Thread → List ℕ → List Place
places_read table thread words = map (λ l. record { own = thread.access l; write = table.write l; mark = table.marks l }) words

-- the thread is changed, if it is there
abbrev pub changed : ℕ → (Thread → Thread) → List (ℕ × Thread) → List (ℕ × Thread)
changed t change threads = option_map_or (λ thread. with_value threads t (change thread)) (value_of threads t) threads

-- an activation begins
abbrev pub with_frame : ℕ → ℕ → Option ℕ → Thread → Thread
with_frame now entry back thread = record thread {
  frames = new_frame now ∷ thread.frames;
  calls = record { entry = entry; back = back; earlier = thread.counts } ∷ thread.calls;
}

abbrev pub no_thread : Thread
no_thread = record { frames = []; calls = []; access = λ l. 0; counts = no_counts }

-- how many of the thread's activations the event ends
abbrev pub count_pops : Event → ℕ → Thread → ℕ
count_pops e t thread = count_ending e t (map (λ c. c.back) thread.calls)

-- ---- The rows: the table after each kind of event, where its tick was made.
abbrev pub after_start : ℕ → ℕ → Table → Table
after_start t entry table = record table {
  threads = table.threads ++ (t, with_frame table.counter entry None no_thread) ∷ [];
  greatest = t;
}

abbrev pub after_call : ℕ → ℕ → ℕ → Table → Table
after_call t entry back table = record table { threads = changed t (with_frame table.counter entry (Some back)) table.threads }

abbrev pub after_step : ℕ → Table → Table
after_step t table = record table {
  threads = changed t (λ thread. record thread { counts = record thread.counts { steps = thread.counts.steps + 1 } }) table.threads;
  last = Some t;
}

-- the words of a Read differ, so each has the stamps from before the event
abbrev pub thread_after_read : ℕ → ℕ → Table → Thread → Thread
thread_after_read first count table thread =
    let places = places_read table thread (range_with_len first count) in
    record thread {
      frames = frames_after_reads places thread.frames;
      access = stamped table.counter first count thread.access;
      counts = record thread.counts {
        thread = thread.counts.thread + count_by is_by_thread places;
        kernel = thread.counts.kernel + count_by is_by_kernel places;
      };
    }

abbrev pub after_read : ℕ → ℕ → ℕ → Table → Table
after_read t first count table = record table { threads = changed t (thread_after_read first count table) table.threads }

abbrev pub after_write : ℕ → ℕ → ℕ → Table → Table
after_write t first count table = record table {
  threads = changed t (λ thread. record thread { access = stamped table.counter first count thread.access }) table.threads;
  write = stamped table.counter first count table.write;
  marks = stamped 0 first count table.marks;
}

abbrev pub after_fill : ℕ → ℕ → Table → Table
after_fill first count table = record table {
  write = stamped table.counter first count table.write;
  marks = stamped 1 first count table.marks;
}

abbrev pub thread_after_ret : ℕ → ℕ → Thread → Thread
thread_after_ret t target thread =
    let n = count_pops (Ret t target) t thread in
    record thread { frames = frames_after_pops n thread.frames; calls = drop n thread.calls }

abbrev pub after_ret : ℕ → ℕ → Table → Table
after_ret t target table = record table { threads = changed t (thread_after_ret t target) table.threads }

abbrev pub after_end : ℕ → Table → Table
after_end t table = record table { threads = without_thread table.threads t }

abbrev pub row : Event → Table → Table
row (Start t entry) table = after_start t entry table
row (Call t entry back) table = after_call t entry back table
row (Step t) table = after_step t table
row (Read t first count) table = after_read t first count table
row (Write t first count) table = after_write t first count table
row (Fill first count) table = after_fill first count table
row (Ret t target) table = after_ret t target table
row (End t) table = after_end t table

-- the table after an event whose tick was made
abbrev pub event_after : Event → Table → Table
event_after e table = record (row e table) { weight = table.weight + weight_of e }
