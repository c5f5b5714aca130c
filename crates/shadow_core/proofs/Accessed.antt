-- Writes and fills of a profiler.
use Rattle.std.proofs.Common.{◌≡◌, ℕ, ◌+◌, true, List, [], Option, ap, ◌∙◌, Some}
use Rattle.std.specs.Option.{option_map_or}
use Rattle.guest_words.specs.ByThread.{value_of}
use Rattle.trace_model.specs.declared.event_kinds.Event.TheVariants.{Fill, Write}
use Rattle.shadow_pages.specs.Pages.{Page, stamp_at}
use Rattle.call_tracker.specs.ThreadCalls.{Calls, no_counts}
use Rattle.stamp_renumber.specs.Threads.{Live, Stamped, calls_of, frames_of, pages_of, stamped}
use Rattle.stamp_table.specs.Renewal.{bounded_tick}
use Rattle.stamp_table.specs.Ticks.{table_after}
use Rattle.shadow_core.specs.State.{State, table_of_state}
use Rattle.shadow_core.specs.Private.StateRows.{AreStamped, Has}
use Rattle.shadow_core.specs.Private.Reading.{IsChanged}
use Rattle.shadow_core.specs.Profiling.{Clock, IsAdvanced, with_clock}
use Rattle.shadow_core.proofs.StateEvents.{event_is_made, stamped_is_there}
use Rattle.shadow_core.proofs.StateRows.{fills_by_parts, writes_by_parts}
use Rattle.shadow_core.proofs.StateTold.{pages_are_not_told, room_is_not_told}

-- `writes` and `marks` are those where the words are covered
pub filled : (most first count : ℕ) (s : State) (writes marks : List Page) (new : Clock) (written marked : List Page) →
    ((l : ℕ) → stamp_at writes l ≡ stamp_at s.writes l) → ((l : ℕ) → stamp_at marks l ≡ stamp_at s.marks l) →
    IsAdvanced most true (record { counter = s.counter; writes = writes; live = s.live; renumbered = s.renumbered }) new →
    AreStamped new.counter first count new.writes written → AreStamped 1 first count marks marked →
    table_of_state (record (with_clock new s) { writes = written; marks = marked; weight = s.weight + 1 }) ≡ table_after (bounded_tick most) (Fill first count) (table_of_state s)
filled most first count s writes marks new written marked same alike step stamps kinds =
    let covered : State = record s { writes = writes; marks = marks } in
    let now = with_clock new covered in
    event_is_made most (Fill first count) s now (record now { writes = written; marks = marked })
    (step.table covered ∙ ap (bounded_tick most) (pages_are_not_told s writes marks same alike))
    (fills_by_parts now first count written marked stamps kinds)

-- ---- The pages of the thread.
pub its_frames : (threads : List (ℕ × Stamped)) (t : ℕ) (was : Stamped) → value_of threads t ≡ Some was → frames_of threads t ≡ was.frames
its_frames threads t was here = ap (λ (o : Option Stamped). option_map_or (λ (s : Stamped). s.frames) o []) here

pub its_pages : (threads : List (ℕ × Stamped)) (t : ℕ) (was : Stamped) → value_of threads t ≡ Some was → pages_of threads t ≡ was.pages
its_pages threads t was here = ap (λ (o : Option Stamped). option_map_or (λ (s : Stamped). s.pages) o []) here

pub its_calls : (threads : List (ℕ × Stamped)) (t : ℕ) (was : Stamped) → value_of threads t ≡ Some was → calls_of threads t ≡ was.calls
its_calls threads t was here = ap (λ (o : Option Stamped). option_map_or (λ (s : Stamped). s.calls) o (record { list = []; counts = no_counts })) here

-- More pages for the thread change nothing.
pub own_room : (s : State) (t : ℕ) (was : Stamped) (live : Live) → Has s t was →
    IsChanged s.live live t (frames_of s.live.threads t) (pages_of live.threads t) →
    ((w : ℕ) → stamp_at (pages_of live.threads t) w ≡ stamp_at (pages_of s.live.threads t) w) →
    table_of_state (record s { live = live }) ≡ table_of_state s
own_room s t was live has changed stamps =
    let calls = changed.calls ∙ its_calls s.live.threads t was has.stamps in
    room_is_not_told s t live was (stamped live.threads t (frames_of s.live.threads t) (pages_of live.threads t)) has.stamps changed.threads
    (its_frames s.live.threads t was has.stamps)
    (λ l. stamps l ∙ ap (λ (ps : List Page). stamp_at ps l) (its_pages s.live.threads t was has.stamps))
    (ap (λ (k : Calls). k.list) calls) (ap (λ (k : Calls). k.counts) calls)

-- `more` are the threads, `writes` and `marks` the pages, where the words are covered
pub written : (most t first count : ℕ) (s : State) (was : Stamped) (more live : Live) (writes marks wrote marked : List Page) → Has s t was →
    IsChanged s.live more t (frames_of s.live.threads t) (pages_of more.threads t) →
    ((w : ℕ) → stamp_at (pages_of more.threads t) w ≡ stamp_at (pages_of s.live.threads t) w) →
    ((l : ℕ) → stamp_at writes l ≡ stamp_at s.writes l) → ((l : ℕ) → stamp_at marks l ≡ stamp_at s.marks l) →
    IsChanged more live t (frames_of more.threads t) (pages_of live.threads t) →
    AreStamped s.counter first count (pages_of more.threads t) (pages_of live.threads t) →
    AreStamped s.counter first count writes wrote → AreStamped 0 first count marks marked →
    table_of_state (record s { live = live; writes = wrote; marks = marked; weight = s.weight + 1 }) ≡ table_after (bounded_tick most) (Write t first count) (table_of_state s)
written most t first count s was more live writes marks wrote marked has roomy stamps same alike changed access stamped_writes kinds =
    let large : State = record s { live = more } in
    let covered : State = record large { writes = writes; marks = marks } in
    let is = stamped more.threads t (frames_of s.live.threads t) (pages_of more.threads t) in
    let there = stamped_is_there s more t was is has roomy.threads in
    event_is_made most (Write t first count) s covered (record covered { live = live; writes = wrote; marks = marked })
    (pages_are_not_told large writes marks same alike ∙ own_room s t was more has roomy stamps)
    (writes_by_parts covered t first count live is (stamped live.threads t (frames_of more.threads t) (pages_of live.threads t)) wrote marked
    there.stamps changed.threads (its_frames more.threads t is there.stamps) changed.calls access stamped_writes kinds)

-- more pages of all kinds change nothing either
pub all_room : (s : State) (t : ℕ) (was : Stamped) (live : Live) (writes marks : List Page) → Has s t was →
    IsChanged s.live live t (frames_of s.live.threads t) (pages_of live.threads t) →
    ((w : ℕ) → stamp_at (pages_of live.threads t) w ≡ stamp_at (pages_of s.live.threads t) w) →
    ((l : ℕ) → stamp_at writes l ≡ stamp_at s.writes l) → ((l : ℕ) → stamp_at marks l ≡ stamp_at s.marks l) →
    table_of_state (record s { live = live; writes = writes; marks = marks }) ≡ table_of_state s
all_room s t was live writes marks has changed stamps same alike =
    pages_are_not_told (record s { live = live }) writes marks same alike ∙ own_room s t was live has changed stamps
