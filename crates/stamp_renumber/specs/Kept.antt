-- What the fields of the threads keep to.
use Rattle.std.specs.Prelude.{◌≡◌, ℕ, ◌+◌, ◌≤◌, List, length}
use Rattle.guest_words.specs.ByThread.{IsRising, numbers}
use Rattle.stamp_renumber.specs.Threads.{Stamped, all_starts}

-- All threads have `frames` frames, and two vectors have room for the marks of these and of some more.
pub record IsKept (threads : List (ℕ × Stamped)) (frames marks starts renewed : ℕ) : Type 0 where
  pub rising : IsRising (numbers threads)
  pub counted : frames ≡ length (all_starts threads)
  pub starts_fit : frames + marks ≤ starts
  pub renewed_fit : frames + marks ≤ renewed
