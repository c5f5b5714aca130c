-- What the state's parts tell of its table.
use Rattle.std.proofs.Common.{◌≡◌, ℕ, Bool, true, false, cond, List, [], ◌∷◌, reverse, Some, refl, ap, ◌∙◌}
use Rattle.std.specs.Prelude.{◌==◌, is_some}
use Rattle.std.specs.Option.{option_map_or}
use Rattle.guest_words.specs.ByThread.{numbers, value_of, with_value}
use Rattle.guest_words.proofs.ThreadTables.{with_own}
use Rattle.stamp_renumber.specs.Threads.{Stamped}
use Rattle.stamp_table.specs.Table.{Thread}
use Rattle.shadow_core.specs.State.{as_thread, as_threads, table_of_state}
use Rattle.shadow_core.specs.Private.StateTold.{empty_state, EmptyIsTold, NumbersAreTold, LifeIsTold, FramesAreTold, ThreadIsTold, RoomIsNotTold, PagesAreNotTold}
use Rattle.shadow_core.proofs.StateThreads.{threads_change, value_as}
use Rattle.shadow_core.proofs.StateTicks.{length-starts}
use Rattle.shadow_core.proofs.StateRows.{with_threads}

pub empty_is_told : EmptyIsTold
empty_is_told live none = with_threads (empty_state live) _ _ (ap as_threads none)

numbers_as : (live : List (ℕ × Stamped)) → numbers (as_threads live) ≡ numbers live
numbers_as [] = refl
numbers_as (x ∷ live) = ap (λ ns. x.0 ∷ ns) (numbers_as live)

pub numbers_are_told : NumbersAreTold
numbers_are_told s = numbers_as s.live.threads

life_as : (live : List (ℕ × Stamped)) (t : ℕ) → is_some (value_of (as_threads live) t) ≡ is_some (value_of live t)
life_as [] t = refl
life_as (x ∷ live) t = by (x.0 == t) (life_as live t)
  where
    by : (b : Bool) → is_some (value_of (as_threads live) t) ≡ is_some (value_of live t) →
        is_some (cond b (Some (as_thread x.1)) (value_of (as_threads live) t)) ≡ is_some (cond b (Some x.1) (value_of live t))
    by true later = refl
    by false later = later

pub life_is_told : LifeIsTold
life_is_told s t = life_as s.live.threads t

pub frames_are_told : FramesAreTold
frames_are_told s = length-starts s.live.threads

pub thread_is_told : ThreadIsTold
thread_is_told s t was h = value_as s.live.threads t was h.stamps

pub room_is_not_told : RoomIsNotTold
room_is_not_told s t live was is found threads frames stamps list counts =
    let own = as_thread was in
    let ys = as_threads s.live.threads in
    let one : as_thread is ≡ own = λ i. record { frames = reverse (frames i); calls = list i; access = λ l. stamps l i; counts = counts i } in
    let there = value_as s.live.threads t was found in
    let all = ap as_threads threads
    ∙ threads_change s.live.threads t was is (λ (thread : Thread). thread) found one
    ∙ ap (λ o. option_map_or (λ (thread : Thread). with_value ys t thread) o ys) there
    ∙ with_own ys t own there in
    with_threads s _ _ all

pub pages_are_not_told : PagesAreNotTold
pages_are_not_told s writes marks write mark = λ i. record {
  counter = s.counter;
  write = λ l. write l i;
  marks = λ l. mark l i;
  threads = (table_of_state s).threads;
  last = s.last;
  greatest = s.greatest;
  weight = s.weight;
  renumbered = s.renumbered;
}
