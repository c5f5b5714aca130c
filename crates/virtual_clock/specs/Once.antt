-- A thread has at most one deadline.
use Rattle.std.specs.Prelude.{◌≡◌, ℕ, Bool, false, ◌==◌, List, [], ◌∷◌}
use Rattle.std.specs.List.{list_any}
use Rattle.virtual_clock.specs.declared.deadline.Deadline.{Deadline}

-- whether the thread has a deadline
abbrev pub has : List Deadline → ℕ → Bool
has deadlines tid = list_any (λ d. d.tid == tid) deadlines

-- no thread has two
abbrev pub IsOnce : List Deadline → Type 0
IsOnce [] = Unit {0}
IsOnce (d ∷ deadlines) = (has deadlines d.tid ≡ false) × IsOnce deadlines
