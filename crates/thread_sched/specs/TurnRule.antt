-- The turn rule: which thread runs next.
use Rattle.std.specs.Prelude.{ℕ, ◌+◌, ◌==◌, nat_lt, min, Bool, List, [], ◌∷◌, map, filter, drop, Option, Some, None, if◌then◌else◌}
use Rattle.std.specs.List.{list_any}
use Rattle.std.specs.Option.{option_or}
use Rattle.thread_sched.specs.declared.entry.Entry.{Entry}
use Rattle.thread_sched.specs.declared.turns.Turn.{Turn}
use Rattle.thread_sched.specs.declared.turns.Turn.TheVariants.{Run, Deadlock, Mismatch}

-- What a scheduler knows: the quantum, the last thread (0 at first), the line of the next entry, and the entries that are left.
pub record SchedulerState : Type 0 where
  pub quantum : ℕ
  pub last : ℕ
  pub line : ℕ
  pub entries : List Entry

-- the threads that can run
abbrev pub able : List (ℕ × Bool) → List ℕ
able live = map (λ thread. thread.0) (filter (λ thread. thread.1) live)

-- the lesser of a number and another, where there is one
abbrev pub lesser : ℕ → Option ℕ → ℕ
lesser n None = n
lesser n (Some m) = min n m

-- the least of a list
abbrev pub least : List ℕ → Option ℕ
least [] = None
least (n ∷ ns) = Some (lesser n (least ns))

-- the threads above the last one
abbrev pub above : ℕ → List ℕ → List ℕ
above last tids = filter (λ tid. nat_lt last tid) tids

-- the least thread above the last one, else the least
abbrev pub next_thread : ℕ → List ℕ → Option ℕ
next_thread last tids = option_or (least (above last tids)) (least tids)

-- a turn by the next entry, where there is one, else the thread's turn in rotation
abbrev pub scheduled : SchedulerState → List ℕ → ℕ → List Entry → Turn
scheduled k tids next [] = Run next k.quantum
scheduled k tids next (e ∷ es) = if list_any (λ tid. tid == e.tid) tids then Run e.tid e.most else Mismatch k.line

-- no turn where no thread can run
abbrev pub turn_if : SchedulerState → List ℕ → Option ℕ → Turn
turn_if k tids None = Deadlock
turn_if k tids (Some next) = scheduled k tids next k.entries

-- the next turn
abbrev pub turn_of : SchedulerState → List (ℕ × Bool) → Turn
turn_of k live = turn_if k (able live) (next_thread k.last (able live))

-- the line behind the next entry
abbrev pub next_line : ℕ → List Entry → ℕ
next_line line [] = line
next_line line (e ∷ es) = line + 1

-- what is known behind a turn: its thread is the last one, and its entry is used; where there is no turn, nothing changes
abbrev pub behind : SchedulerState → Turn → SchedulerState
behind k (Run tid most) = record { quantum = k.quantum; last = tid; line = next_line k.line k.entries; entries = drop 1 k.entries }
behind k turn = k
