-- What a call makes of the deadlines.
use Rattle.std.specs.Prelude.{ℕ, not, ◌==◌, List, [], ◌∷◌, ◌++◌, filter, Option, Some, None}
use Rattle.virtual_clock.specs.declared.deadline.Deadline.{Deadline}
use Rattle.virtual_clock.specs.Order.{due_of}

-- the thread gets a deadline
abbrev pub after_set : List Deadline → ℕ → ℕ → ℕ → List Deadline
after_set deadlines tid at answer = deadlines ++ record { tid = tid; at = at; answer = answer } ∷ []

-- the thread has none any more
abbrev pub after_forget : List Deadline → ℕ → List Deadline
after_forget deadlines tid = filter (λ d. not (d.tid == tid)) deadlines

-- it was taken out, if there was one
abbrev pub without : List Deadline → Option Deadline → List Deadline
without deadlines None = deadlines
without deadlines (Some d) = after_forget deadlines d.tid

-- the due one is taken out
abbrev pub after_due : List Deadline → ℕ → List Deadline
after_due deadlines now = without deadlines (due_of deadlines now)
