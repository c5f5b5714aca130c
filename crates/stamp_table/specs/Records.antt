-- What the table records of activations that end.
use Rattle.std.specs.Prelude.{ℕ, ◌+◌, ◌-◌, ℤ, pos, negsuc, List, [], ◌∷◌, ◌++◌, Option, Some, None}
use Rattle.guest_words.specs.ByThread.{value_of}
use Rattle.trace_model.specs.declared.event_kinds.Event.{Event}
use Rattle.trace_model.specs.declared.event_kinds.Event.TheVariants.{Ret, End}
use Rattle.trace_model.specs.declared.slow_profile.Done.{Done}
use Rattle.shadow_stack.specs.declared.sums.Sums.{Sums}
use Rattle.stamp_table.specs.Frames.{popped}
use Rattle.call_tracker.specs.ThreadCalls.{CountedCall, Counts}
use Rattle.stamp_table.specs.Table.{Thread, Table, count_pops}
use Rattle.stamp_table.specs.Ticks.{table_at, table_of}

-- a number, and 0 for one below it
abbrev pub nat_of : ℤ → ℕ
nat_of (pos n) = n
nat_of (negsuc n) = 0

-- the sums are those of the popped frame, and the counts those of the thread now
abbrev pub record_of : ℕ → Counts → Sums → CountedCall → Done
record_of t counts sums call =
    let plain = nat_of sums.plain in
    let by_thread = counts.thread - call.earlier.thread in
    let by_kernel = counts.kernel - call.earlier.kernel in
    record {
      tid = t;
      entry = call.entry;
      size = plain + by_thread + by_kernel;
      cost = counts.steps - call.earlier.steps;
      plain = plain;
      thread = by_thread;
      kernel = by_kernel;
      bare = nat_of sums.bare;
    }

-- each sum with its call
abbrev pub records : ℕ → Counts → List Sums → List CountedCall → List Done
records t counts (s ∷ sums) (c ∷ calls) = record_of t counts s c ∷ records t counts sums calls
records t counts sums calls = []

-- what is recorded of the thread at an event that ends activations of it
abbrev pub records_of : Event → ℕ → Option Thread → List Done
records_of e t None = []
records_of e t (Some thread) = records t thread.counts (popped (count_pops e t thread) thread.frames) thread.calls

-- what is recorded at the event, the innermost activation first
abbrev pub finished : Event → Table → List Done
finished (Ret t target) table = records_of (Ret t target) t (value_of table.threads t)
finished (End t) table = records_of (End t) t (value_of table.threads t)
finished _ table = []

-- over the whole past, in order of ending
abbrev pub finished_of : (Table → Table) → List Event → List Done
finished_of tick [] = []
finished_of tick (e ∷ past) = finished_of tick past ++ finished e (table_at tick e (table_of tick past))
