-- Calls of a thread that end.
use Rattle.std.specs.Prelude.{◌≡◌, ℕ, List, ◌++◌, drop, length}
use Rattle.guest_words.specs.ByThread.{with_value}
use Rattle.trace_model.specs.declared.slow_profile.Done.{Done}
use Rattle.shadow_stack.specs.declared.sums.Sums.{Sums}
use Rattle.stamp_renumber.specs.Threads.{Live, calls_of, frames_of, pages_of, stamped}
use Rattle.shadow_core.specs.Private.Parts.{ArePopped}
use Rattle.stamp_table.specs.Records.{records}

-- `n` calls of the thread ended, the innermost first: their frames are popped, and each is recorded with its sums.
pub record IsEnded (t n : ℕ) (old new : Live) (done more : List Done) : Type 0 where
  pub sums : List Sums
  pub count : length sums ≡ n
  pub frames : ArePopped (frames_of old.threads t) sums (frames_of new.threads t)
  pub threads : new.threads ≡ with_value old.threads t (stamped new.threads t (frames_of new.threads t) (pages_of old.threads t))
  pub list : (calls_of new.threads t).list ≡ drop n (calls_of old.threads t).list
  pub counts : (calls_of new.threads t).counts ≡ (calls_of old.threads t).counts
  pub recorded : more ≡ done ++ records t (calls_of old.threads t).counts sums (calls_of old.threads t).list
