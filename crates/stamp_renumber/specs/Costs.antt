-- How many stamps a tick writes.
use Rattle.std.specs.Prelude.{ℕ, ◌+◌, ◌*◌, if◌then◌else◌, nat_lt, List, length, sum_by}
use Rattle.shadow_pages.specs.Pages.{Page}
use Rattle.stamp_renumber.specs.Threads.{Live, Stamped}

-- the stamps of a thread: the start of each frame, and those of its pages of accesses
abbrev pub stamps_of : Stamped → ℕ
stamps_of s = length s.frames + 1024 * length s.pages

-- all stamps: those of the threads, and those of the pages of latest writes
abbrev pub stamps_in : Live → List Page → ℕ
stamps_in live writes = sum_by (λ x. stamps_of x.1) live.threads + 1024 * length writes

-- a tick writes none, but all of them where the counter is at its greatest
abbrev pub tick_cost : ℕ → ℕ → Live → List Page → ℕ
tick_cost greatest counter live writes = if nat_lt counter greatest then 0 else stamps_in live writes
