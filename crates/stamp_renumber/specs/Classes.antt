-- New stamps for old ones, three for each class. `starts` are the start stamps of the frames of all threads.
use Rattle.std.specs.Prelude.{ℕ, ◌+◌, ◌*◌, ◌==◌, if◌then◌else◌, nat_le, List, count_by}
use Rattle.stamp_lanes.specs.Plain.{renewed}

-- the class of a stamp: how many of the starts are at most it
abbrev pub class : List ℕ → ℕ → ℕ
class starts stamp = count_by (λ start. nat_le start stamp) starts

-- the start of class k becomes 3k
abbrev pub new_start : List ℕ → ℕ → ℕ
new_start starts stamp = 3 * class starts stamp

-- a write stamp of class k becomes 3k + 1, and 0 stays 0
abbrev pub new_write : List ℕ → ℕ → ℕ
new_write starts stamp = if stamp == 0 then 0 else 3 * class starts stamp + 1

-- An access stamp of class k becomes 3k where the word's write stamp has another class or is above it, 3k + 1 where it equals
-- the write stamp, and 3k + 2 where it is above a write stamp of its class; and 0 stays 0.
abbrev pub new_access : List ℕ → ℕ → ℕ → ℕ
new_access starts access write =
    renewed (record { own = access; own_class = class starts access; write = write; write_class = class starts write })
