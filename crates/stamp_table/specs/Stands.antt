-- When a stamp table stands for a past.
use Rattle.std.specs.Prelude.{◌≡◌, ◌≢◌, ℕ, ◌+◌, ◌<◌, ◌≤◌, true, if◌then◌else◌, nat_le, nat_lt, List, [], ◌∷◌, length, map, Option, Some, None, All, Contains, is_some}
use Rattle.std.specs.List.{AllZip}
use Rattle.guest_words.specs.ByThread.{IsRising, numbers, value_of}
use Rattle.trace_model.specs.declared.event_kinds.Event.{Event}
use Rattle.trace_model.specs.declared.activations.Activation.{Activation}
use Rattle.trace_model.specs.Activations.{open_calls}
use Rattle.trace_model.specs.Sizes.{since, last_touch, accessed}
use Rattle.trace_model.specs.WellFormed.{is_live, last_step, greatest_start, weight, IsWellFormed}
use Rattle.trace_model.specs.Depth.{pending, is_within}
use Rattle.shadow_stack.specs.declared.sums.Sums.{Sums}
use Rattle.shadow_stack.specs.Frames.{Frame, plus, starts_of}
use Rattle.stamp_table.specs.Frames.{no_sums}
use Rattle.stamp_table.specs.Table.{Thread, Table}
use Rattle.stamp_table.specs.Renewal.{all_starts}
use Rattle.stamp_table.specs.Past.{is_written, is_filled, is_by_others, counts_of, call_of, sums_of}
use Rattle.stamp_table.specs.Counting.{counter_of, renumberings}

-- ---- What the frames of a thread say.
-- for each frame, the sum of the sums from it up to the innermost; `above` is that of the frames further in
abbrev pub totals : Sums → List Frame → List Sums
totals above [] = []
totals above (f ∷ frames) = plus above f.sums ∷ totals (plus above f.sums) frames

-- the start is at or before the word's access stamp exactly where the access was inside the activation
abbrev pub IsStartOf : List Event → ℕ → (ℕ → ℕ) → ℕ → Activation → Type 0
IsStartOf past t access start a = (l : ℕ) → nat_le start (access l) ≡ accessed (since past a.at) t l

-- the starts, the innermost first, are not 0, below the limit, and each below the one before
abbrev pub IsFalling : ℕ → List ℕ → Type 0
IsFalling limit [] = Unit {0}
IsFalling limit (s ∷ starts) = (0 < s) × (s < limit) × IsFalling s starts

-- the start of the outermost frame, or 0
abbrev pub outermost : List ℕ → ℕ
outermost [] = 0
outermost (s ∷ []) = s
outermost (s ∷ r ∷ starts) = outermost (r ∷ starts)

-- ---- The relation.
-- What a live thread's part of the table says.
pub record ThreadStands (table : Table) (past : List Event) (t : ℕ) (thread : Thread) : Type 0 where
  -- (a) The open calls are the open activations, so a return pops as many frames as activations end; and counts only rise, so
  -- what they rose by since an activation began is its cost, and the parts of its size by others and by the kernel.
  pub calls : thread.calls ≡ map (call_of past t) (open_calls past t)
  pub counts : thread.counts ≡ counts_of past t
  -- (b) Starts tell accesses inside an activation from those before it. Each access stamp lies in some frame.
  pub starts : AllZip (IsStartOf past t thread.access) (starts_of thread.frames) (open_calls past t)
  pub reached : (l : ℕ) → 0 < thread.access l → outermost (starts_of thread.frames) ≤ thread.access l
  -- (c) An access stamp is below the word's write stamp exactly where someone else wrote the word since the access.
  pub overwritten : (l : ℕ) → nat_lt (thread.access l) (table.write l) ≡ is_by_others (last_touch past t l)
  -- (d) The counter is no lower than any access stamp, and has moved on from those of threads that do not run, so that a
  -- write by the thread that runs gets a greater stamp.
  pub bounded : (l : ℕ) → thread.access l ≤ table.counter
  pub away : table.last ≢ Some t → (l : ℕ) → thread.access l < table.counter
  -- (e) The starts fall from the innermost frame outwards, so a search finds the frame of an access.
  pub falling : IsFalling (table.counter + 1) (starts_of thread.frames)
  -- (f) The sums of the frames from an activation's up to the innermost are its plain part and its plain read memory size.
  pub sums : totals no_sums thread.frames ≡ map (sums_of past t) (open_calls past t)

-- a frame of the thread, if there is one, starts so
abbrev pub HasStart : Option Thread → ℕ → Type 0
HasStart None s = ⊥
HasStart (Some thread) s = Contains (starts_of thread.frames) s

-- no start is one of two threads
abbrev pub AreDistinct : List (ℕ × Thread) → Type 0
AreDistinct threads = (s t u : ℕ) → HasStart (value_of threads t) s → HasStart (value_of threads u) s → t ≡ u

-- What a table says of a past, whatever its ticks were.
pub record Agrees (table : Table) (past : List Event) : Type 0 where
  -- (a) to (f) for each thread
  pub threads : (t : ℕ) (thread : Thread) → value_of table.threads t ≡ Some thread → ThreadStands table past t thread
  -- (c) A write stamp is 0 exactly where no one wrote the word, so a thread that starts knows nothing of others' writes.
  -- The mark is 1 where the kernel wrote it last, and else 0.
  pub written : (l : ℕ) → nat_lt 0 (table.write l) ≡ is_written past l
  pub marks : (l : ℕ) → table.marks l ≡ (if is_filled past l then 1 else 0)
  -- (d) The counter is no lower than any write stamp.
  pub writes : (l : ℕ) → table.write l ≤ table.counter
  -- (e) Starts of different threads differ, so each has a class of its own when stamps are renumbered.
  pub distinct : AreDistinct table.threads
  -- (g) The past is one that a run can have. The threads are the live ones by rising number, none above the greatest that
  -- started, so a new one comes last. These, the thread of the last step, the greatest number and the weight tell which event
  -- may follow.
  pub formed : IsWellFormed past
  pub live : (t : ℕ) → is_some (value_of table.threads t) ≡ is_live past t
  pub rising : IsRising (numbers table.threads)
  pub started : All (λ t. t ≤ greatest_start past) (numbers table.threads)
  pub last : table.last ≡ last_step past
  pub greatest : table.greatest ≡ greatest_start past
  pub weight : table.weight ≡ weight past

-- What it counts: as many frames as activations are open, and the folds over the trace.
pub record IsCounted (most : ℕ) (table : Table) (past : List Event) : Type 0 where
  pub frames : length (all_starts table.threads) ≡ pending past
  pub counter : table.counter ≡ counter_of most past
  pub renumbered : table.renumbered ≡ renumberings most past

-- The table, whose greatest stamp is `most`, stands for the past.
pub record Stands (most : ℕ) (table : Table) (past : List Event) : Type 0 where
  pub agrees : Agrees table past
  -- (g) The counter and the number of renumberings are those of the trace.
  pub counted : IsCounted most table past
  -- (h) The past fits, so renumbered stamps and a new one are at most the greatest.
  pub within : is_within most past ≡ true
