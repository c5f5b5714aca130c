-- What a thread counts beside its frames.
use Rattle.std.specs.Prelude.{ℕ, ◌+◌}
use Rattle.guest_words.specs.ByThread.{with_value}
use Rattle.call_tracker.specs.ThreadCalls.{Calls}
use Rattle.stamp_renumber.specs.Threads.{Live, frames_of, pages_of, spare_of}

-- steps are counted
abbrev pub steps_added : ℕ → Calls → Calls
steps_added steps calls = record calls { counts = record calls.counts { steps = calls.counts.steps + steps } }

-- words are counted that another thread, and that the kernel wrote last
abbrev pub found_added : ℕ → ℕ → Calls → Calls
found_added thread kernel calls = record calls { counts = record calls.counts { thread = calls.counts.thread + thread; kernel = calls.counts.kernel + kernel } }

-- the thread has these calls
abbrev pub with_calls : Live → ℕ → Calls → Live
with_calls live t calls = record live { threads = with_value live.threads t (record { frames = frames_of live.threads t; spare = spare_of live.threads t; pages = pages_of live.threads t; calls = calls }) }
