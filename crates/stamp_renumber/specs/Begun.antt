-- A call that a thread begins.
use Rattle.std.specs.Prelude.{◌≡◌, ℕ, ◌≤◌, ◌+◌, ◌++◌, ◌∷◌, [], Option}
use Rattle.guest_words.specs.ByThread.{with_value}
use Rattle.shadow_stack.specs.Frames.{new_frame}
use Rattle.stamp_renumber.specs.Threads.{Live, calls_of, frames_of, pages_of, spare_of, stamped}

-- The thread has one more frame, inside all its others, with its call. One mark is taken, and at most one frame's room.
pub record IsBegun (t start entry : ℕ) (back : Option ℕ) (old new : Live) : Type 0 where
  pub threads : new.threads ≡ with_value old.threads t (stamped new.threads t (frames_of old.threads t ++ new_frame start ∷ []) (pages_of old.threads t))
  pub list : (calls_of new.threads t).list ≡ record { entry = entry; back = back; earlier = (calls_of old.threads t).counts } ∷ (calls_of old.threads t).list
  pub counts : (calls_of new.threads t).counts ≡ (calls_of old.threads t).counts
  pub lowered : spare_of old.threads t ≤ spare_of new.threads t + 1
  pub marks : old.marks ≡ new.marks + 1
