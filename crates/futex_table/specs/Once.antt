-- A thread waits at most once.
use Rattle.std.specs.Prelude.{◌≡◌, ℕ, Bool, false, ◌==◌, List, [], ◌∷◌}
use Rattle.std.specs.List.{list_any}
use Rattle.futex_table.specs.declared.waiter.Waiter.{Waiter}

-- whether the thread is one of those that wait
abbrev pub waits : List Waiter → ℕ → Bool
waits waiting tid = list_any (λ w. w.tid == tid) waiting

-- no thread waits twice
abbrev pub IsOnce : List Waiter → Type 0
IsOnce [] = Unit {0}
IsOnce (w ∷ waiting) = (waits waiting w.tid ≡ false) × IsOnce waiting
