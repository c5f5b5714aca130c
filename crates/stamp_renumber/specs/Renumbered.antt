-- Threads whose stamps are renumbered.
use Rattle.std.specs.Prelude.{◌≡◌, ℕ, ◌<◌, List, length, map, slice_index_or}
use Rattle.guest_words.specs.ByThread.{numbers}
use Rattle.shadow_stack.specs.Frames.{Frame}
use Rattle.shadow_pages.specs.Pages.{Page, covers, stamp_at}
use Rattle.stamp_renumber.specs.Classes.{new_access, new_start}
use Rattle.stamp_renumber.specs.Threads.{Stamped}

-- the frames with their new starts
abbrev pub renewed_frames : List ℕ → List Frame → List Frame
renewed_frames starts frames = map (λ (f : Frame). record f { start = new_start starts f.start }) frames

-- Its frames have their new starts and the sums that they had, and its words their new access stamps; its calls stay. `writes`
-- are the write stamps before they are renumbered.
pub record IsThreadRenumbered (starts : List ℕ) (writes : List Page) (old new : Stamped) : Type 0 where
  pub frames : new.frames ≡ renewed_frames starts old.frames
  pub spare : new.spare ≡ old.spare
  pub stamps : (w : ℕ) → stamp_at new.pages w ≡ new_access starts (stamp_at old.pages w) (stamp_at writes w)
  pub covered : (w : ℕ) → covers new.pages w ≡ covers old.pages w
  pub calls : new.calls ≡ old.calls

-- The same threads, each renumbered.
pub record AreRenumbered (starts : List ℕ) (writes : List Page) (old new : List (ℕ × Stamped)) : Type 0 where
  pub same : numbers new ≡ numbers old
  pub each : (k : ℕ) (d : ℕ × Stamped) → k < length old → IsThreadRenumbered starts writes (slice_index_or old k d).1 (slice_index_or new k d).1
