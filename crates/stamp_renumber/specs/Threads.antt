-- The live threads, with their frames, their calls and the stamps of their accesses.
use Rattle.std.specs.Prelude.{ℕ, ◌≤◌, ◌&&◌, Bool, List, [], nat_lt}
use Rattle.std.specs.List.{flat_map}
use Rattle.std.specs.Option.{option_map_or}
use Rattle.shadow_stack.specs.Frames.{Frame, starts_of}
use Rattle.shadow_pages.specs.Pages.{Page}
use Rattle.guest_words.specs.ByThread.{value_of}
use Rattle.call_tracker.specs.ThreadCalls.{Calls, no_counts}

-- What is kept of a thread: its frames, the outermost first, how many more can be pushed with their calls without allocating, the
-- pages of its access stamps, and its calls, with what it has counted.
pub record Stamped : Type 0 where
  pub frames : List Frame
  pub spare : ℕ
  pub pages : List Page
  pub calls : Calls

-- The live threads by rising number, and for how many more frames there is room to mark them in a renumbering.
pub record Live : Type 0 where
  pub threads : List (ℕ × Stamped)
  pub marks : ℕ

-- the starts of the frames of all threads
abbrev pub all_starts : List (ℕ × Stamped) → List ℕ
all_starts threads = flat_map (λ x. starts_of x.1.frames) threads

-- the frames of a thread
abbrev pub frames_of : List (ℕ × Stamped) → ℕ → List Frame
frames_of threads t = option_map_or (λ (s : Stamped). s.frames) (value_of threads t) []

-- its room
abbrev pub spare_of : List (ℕ × Stamped) → ℕ → ℕ
spare_of threads t = option_map_or (λ (s : Stamped). s.spare) (value_of threads t) 0

-- its pages
abbrev pub pages_of : List (ℕ × Stamped) → ℕ → List Page
pages_of threads t = option_map_or (λ (s : Stamped). s.pages) (value_of threads t) []

-- its calls
abbrev pub calls_of : List (ℕ × Stamped) → ℕ → Calls
calls_of threads t = option_map_or (λ (s : Stamped). s.calls) (value_of threads t) (record { list = []; counts = no_counts })

-- there is room for one more frame of the thread with its call, and for its mark
abbrev pub HasRoom : Live → ℕ → Type 0
HasRoom live t = (1 ≤ spare_of live.threads t) × (1 ≤ live.marks)

abbrev pub has_room : Live → ℕ → Bool
has_room live t = nat_lt 0 live.marks && nat_lt 0 (spare_of live.threads t)

-- a thread with these frames and pages, and the room and the calls that it has among the threads
abbrev pub stamped : List (ℕ × Stamped) → ℕ → List Frame → List Page → Stamped
stamped threads t frames pages = record { frames = frames; spare = spare_of threads t; pages = pages; calls = calls_of threads t }

-- the thread as it is
abbrev pub own_of : List (ℕ × Stamped) → ℕ → Stamped
own_of threads t = stamped threads t (frames_of threads t) (pages_of threads t)
