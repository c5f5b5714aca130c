-- What a read of one word changes in its thread.
use Rattle.std.specs.Prelude.{◌≡◌, ◌≢◌, ℕ, ◌≤◌}
use Rattle.shadow_stack.specs.declared.sums.Sums.{Sums}
use Rattle.shadow_stack.specs.Frames.{IsMoved}
use Rattle.shadow_pages.specs.Pages.{covers, stamp_at}
use Rattle.stamp_renumber.specs.Threads.{Stamped}

-- The word has the stamp, and no other word a new one; `by` and `back` moved in the frames as after a last access at `own`.
pub record IsWordRead (w own : ℕ) (by back : Sums) (stamp : ℕ) (old new : Stamped) : Type 0 where
  pub frames : IsMoved own by back old.frames new.frames
  pub this : stamp_at new.pages w ≡ stamp
  pub others : (v : ℕ) → v ≢ w → stamp_at new.pages v ≡ stamp_at old.pages v
  pub covered : (v : ℕ) → covers new.pages v ≡ covers old.pages v
  pub calls : new.calls ≡ old.calls
  pub kept : old.spare ≤ new.spare
