-- A return of a thread.
use Rattle.std.specs.Prelude.{◌≡◌, ◌==◌, ℕ, ◌≤◌, ◌+◌, ◌∷◌, Some, false, map}
use Rattle.guest_words.specs.ByThread.{with_value}
use Rattle.trace_model.specs.Activations.{count_returned}
use Rattle.call_tracker.specs.ThreadCalls.{Calls}
use Rattle.shadow_stack.specs.Frames.{IsPopped}
use Rattle.stamp_renumber.specs.declared.thread_stamps.EndedCall.{EndedCall}
use Rattle.stamp_renumber.specs.declared.thread_stamps.Returned.{Returned}
use Rattle.stamp_renumber.specs.declared.thread_stamps.Returned.TheVariants.{One, Many}
use Rattle.stamp_renumber.specs.Threads.{Live, calls_of, frames_of, pages_of, spare_of, stamped}

-- how many calls a return to the target ends
abbrev pub returned_by : ℕ → Calls → ℕ
returned_by target calls = count_returned target (map (λ c. c.back) calls.list)

-- The thread's innermost call ended, and its frame is popped.
pub record EndsOne (t : ℕ) (old new : Live) (ended : EndedCall) : Type 0 where
  pub popped : IsPopped (frames_of old.threads t) (Some ended.sums) (frames_of new.threads t)
  pub threads : new.threads ≡ with_value old.threads t (stamped new.threads t (frames_of new.threads t) (pages_of old.threads t))
  pub list : (calls_of old.threads t).list ≡ ended.call ∷ (calls_of new.threads t).list
  pub counts : (calls_of new.threads t).counts ≡ (calls_of old.threads t).counts
  pub counted : ended.counts ≡ (calls_of old.threads t).counts
  pub kept : spare_of old.threads t ≤ spare_of new.threads t
  pub marks : new.marks ≡ old.marks + 1

-- Where the return ends one call, that call ended. Else the answer is how many it ends, and nothing changed.
abbrev pub IsReturned : ℕ → ℕ → Live → Live → Returned → Type 0
IsReturned t target old new (One ended) = (returned_by target (calls_of old.threads t) ≡ 1) × EndsOne t old new ended
IsReturned t target old new (Many count) =
    ((count == 1) ≡ false) × (count ≡ returned_by target (calls_of old.threads t)) × (new ≡ old)
