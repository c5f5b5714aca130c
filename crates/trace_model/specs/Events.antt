-- What one event means for one thread and one word.
-- A past is the list of the events so far, the newest first: `e ∷ past` is that past followed by e.
use Rattle.std.specs.Prelude.{ℕ, ◌+◌, Bool, ◌&&◌, if◌then◌else◌, nat_eq, nat_le, nat_lt, List, [], Option, Some, None}
use Rattle.std.specs.List.{range_with_len}
use Rattle.trace_model.specs.declared.event_kinds.Event.{Event}
use Rattle.trace_model.specs.declared.event_kinds.Touch.{Touch}
use Rattle.trace_model.specs.declared.event_kinds.Touch.TheVariants.{Untouched, ByItself, ByOther, ByKernel}
use Rattle.trace_model.specs.declared.event_kinds.Event.TheVariants.{Step, Read, Write, Fill, Call, Ret, Start, End}

-- the word is one of the `count` words from `first` on
abbrev pub covers : ℕ → ℕ → ℕ → Bool
covers first count l = nat_le first l && nat_lt l (first + count)

-- the thread that the event is of; a fill is of none
abbrev pub thread_of : Event → Option ℕ
thread_of (Step t) = Some t
thread_of (Read t _ _) = Some t
thread_of (Write t _ _) = Some t
thread_of (Fill _ _) = None
thread_of (Call t _ _) = Some t
thread_of (Ret t _) = Some t
thread_of (Start t _) = Some t
thread_of (End t) = Some t

-- how the event touches the word, as thread t sees it; a read by another thread is no touch
abbrev pub touch : Event → ℕ → ℕ → Touch
touch (Read tid first count) t l = if nat_eq tid t && covers first count l then ByItself else Untouched
touch (Write tid first count) t l =
    if covers first count l then (if nat_eq tid t then ByItself else ByOther) else Untouched
touch (Fill first count) t l = if covers first count l then ByKernel else Untouched
touch _ t l = Untouched

-- the words that thread t reads by the event
abbrev pub words_read : Event → ℕ → List ℕ
words_read (Read tid first count) t = if nat_eq tid t then range_with_len first count else []
words_read _ t = []

-- the instructions that thread t runs by the event
abbrev pub steps_run : Event → ℕ → ℕ
steps_run (Step tid) t = if nat_eq tid t then 1 else 0
steps_run _ t = 0
