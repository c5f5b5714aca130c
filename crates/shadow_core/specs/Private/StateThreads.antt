-- A change of one thread of the state is one of the table's.
use Rattle.std.specs.Prelude.{◌≡◌, ℕ, ◌<◌, List, [], ◌∷◌, ◌++◌, Some, All}
use Rattle.guest_words.specs.ByThread.{numbers, value_of, with_value, without_thread}
use Rattle.stamp_renumber.specs.Threads.{Stamped}
use Rattle.stamp_table.specs.Table.{Thread, changed}
use Rattle.shadow_core.specs.State.{as_thread, as_threads}

-- the thread's new parts are a change of its old ones
abbrev pub ThreadsChange : Type 0
ThreadsChange = (live : List (ℕ × Stamped)) (t : ℕ) (was is : Stamped) (change : Thread → Thread) →
    value_of live t ≡ Some was → as_thread is ≡ change (as_thread was) →
    as_threads (with_value live t is) ≡ changed t change (as_threads live)

-- one thread more
abbrev pub ThreadsCome : Type 0
ThreadsCome = (live : List (ℕ × Stamped)) (t : ℕ) (is : Stamped) → as_threads (live ++ (t, is) ∷ []) ≡ as_threads live ++ (t, as_thread is) ∷ []

-- and one less
abbrev pub ThreadsGo : Type 0
ThreadsGo = (live : List (ℕ × Stamped)) (t : ℕ) → as_threads (without_thread live t) ≡ without_thread (as_threads live) t

-- the last thread, which just came, is changed
abbrev pub LastChanges : Type 0
LastChanges = (live : List (ℕ × Stamped)) (t : ℕ) (was is : Stamped) → All (λ n. n < t) (numbers live) →
    with_value (live ++ (t, was) ∷ []) t is ≡ live ++ (t, is) ∷ []
