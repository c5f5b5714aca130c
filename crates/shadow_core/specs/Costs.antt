-- What an event costs: lookups of threads and of pages, comparisons of stamps and of return addresses, and stamps and marks that
-- are read or written, each one step. The making of memory is no step.
use Rattle.std.specs.Prelude.{ℕ, ◌+◌, ◌*◌, ◌^◌, ◌<◌, ◌≤◌, ◌==◌, if◌then◌else◌, nat_lt, length, map, count_by}
use Rattle.std.specs.List.{range_with_len}
use Rattle.trace_model.specs.declared.event_kinds.Event.{Event}
use Rattle.trace_model.specs.declared.event_kinds.Event.TheVariants.{Read, Write, Fill, Ret, End}
use Rattle.trace_model.specs.Activations.{count_returned}
use Rattle.shadow_stack.specs.Costs.{is_old}
use Rattle.shadow_stack.specs.Frames.{starts_of}
use Rattle.shadow_pages.specs.Pages.{stamp_at}
use Rattle.stamp_renumber.specs.Costs.{stamps_in, tick_cost}
use Rattle.stamp_renumber.specs.Threads.{Live, calls_of, frames_of, pages_of}
use Rattle.stamp_table.specs.Ticks.{ticks}
use Rattle.shadow_core.specs.State.{State}

-- so many binary digits can write how many activations of the thread are open
abbrev pub HasDigits : ℕ → Live → ℕ → Type 0
HasDigits digits live t = length (frames_of live.threads t) < 2 ^ digits

-- how many words of the range the thread has not accessed since its innermost activation began
abbrev pub old_words : Live → ℕ → ℕ → ℕ → ℕ
old_words live t first count =
    count_by (λ w. is_old (starts_of (frames_of live.threads t)) (stamp_at (pages_of live.threads t) w)) (range_with_len first count)

-- A return looks at the calls that it ends. Where it ends none, it may look at all that the thread has open.
abbrev pub calls_seen : Live → ℕ → ℕ → ℕ
calls_seen live t target =
    let ended = count_returned target (map (λ c. c.back) (calls_of live.threads t).list) in
    if ended == 0 then length (frames_of live.threads t) else ended

-- At most this many without the tick: a constant, and a constant for each word, `digits` for each old word that is read, and a constant
-- for each activation that ends.
abbrev pub most_untimed : ℕ → Event → State → ℕ
most_untimed digits (Read t first count) s = 8 + 32 * count + old_words s.live t first count * digits
most_untimed digits (Write t first count) s = 8 + 32 * count
most_untimed digits (Fill first count) s = 8 + 32 * count
most_untimed digits (Ret t target) s = 8 + 4 * calls_seen s.live t target
most_untimed digits (End t) s = 8 + 4 * length (frames_of s.live.threads t)
most_untimed digits _ s = 8

-- A tick writes none, but each stamp once where the counter is at its greatest. A fill makes its pages before: at most one for each word.
abbrev pub most_ticked : ℕ → Event → State → ℕ
most_ticked most (Fill first count) s = if nat_lt s.counter most then 0 else stamps_in s.live s.writes + 1024 * count
most_ticked most _ s = tick_cost most s.counter s.live s.writes

abbrev pub most_steps : ℕ → ℕ → Event → State → ℕ
most_steps most digits e s = most_untimed digits e s + (if ticks e s.last then most_ticked most e s else 0)

-- the depth of a thread that reads has at most so many binary digits
abbrev pub FitsDigits : ℕ → Event → State → Type 0
FitsDigits digits (Read t first count) s = HasDigits digits s.live t
FitsDigits digits _ s = Unit {0}

-- The event counts at most so many steps, from the count before it to that after it.
abbrev pub CostsAtMost : ℕ → Event → State → ℕ → ℕ → Type 0
CostsAtMost most e s before after = (digits : ℕ) → FitsDigits digits e s → after ≤ before + most_steps most digits e s
