-- What a tick of the bounded counter does.
use Rattle.std.specs.Prelude.{◌≡◌, ℕ, ◌+◌, ◌*◌, ◌<◌, ◌≤◌, true, false, if◌then◌else◌, nat_lt, List, All, length, Some}
use Rattle.guest_words.specs.ByThread.{numbers, value_of}
use Rattle.shadow_stack.specs.Frames.{Frame}
use Rattle.shadow_pages.specs.Pages.{Page, covers, stamp_at}
use Rattle.stamp_renumber.specs.declared.ticks.Ticked.{Ticked}
use Rattle.stamp_renumber.specs.Classes.{new_write}
use Rattle.stamp_renumber.specs.Renumbered.{IsThreadRenumbered}
use Rattle.stamp_renumber.specs.Threads.{Live, Stamped, all_starts}

-- the counter after a tick: one more below the greatest stamp, and there above all new stamps of n frames
abbrev pub ticked : ℕ → ℕ → ℕ → Ticked
ticked greatest counter n =
    if nat_lt counter greatest then record { counter = counter + 1; renewed = false } else record { counter = 3 * n + 3; renewed = true }

-- All stamps are renumbered: the same threads live, and the same words have stamps.
pub record IsRenumbered (old new : Live) (writes written : List Page) : Type 0 where
  pub same : numbers new.threads ≡ numbers old.threads
  pub each : (t : ℕ) (was is : Stamped) → value_of old.threads t ≡ Some was → value_of new.threads t ≡ Some is → IsThreadRenumbered (all_starts old.threads) writes was is
  pub marks : new.marks ≡ old.marks
  pub stamps : (w : ℕ) → stamp_at written w ≡ new_write (all_starts old.threads) (stamp_at writes w)
  pub covered : (w : ℕ) → covers written w ≡ covers writes w

-- Every stamp is below n: the starts of the frames, the access stamps and the write stamps.
pub record AreBelow (live : Live) (writes : List Page) (n : ℕ) : Type 0 where
  pub starts : (t : ℕ) (s : Stamped) → value_of live.threads t ≡ Some s → All (λ (f : Frame). f.start < n) s.frames
  pub accesses : (t : ℕ) (s : Stamped) → value_of live.threads t ≡ Some s → (w : ℕ) → stamp_at s.pages w < n
  pub written : (w : ℕ) → stamp_at writes w < n

-- after a tick the counter is above all stamps, if none was above it before
abbrev pub TicksStayAbove : Type 0
TicksStayAbove =
    (greatest counter : ℕ) (old new : Live) (writes written : List Page) →
    counter ≤ greatest →
    AreBelow old writes (counter + 1) →
    (counter < greatest → (new ≡ old) × (written ≡ writes)) →
    (counter ≡ greatest → IsRenumbered old new writes written) →
    AreBelow new written (ticked greatest counter (length (all_starts old.threads))).counter
