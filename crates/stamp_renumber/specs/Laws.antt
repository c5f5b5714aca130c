-- The order that new stamps keep.
use Rattle.std.specs.Prelude.{◌≡◌, ◌==◌, ℕ, ◌+◌, ◌*◌, ◌<◌, ◌≤◌, nat_le, nat_lt, List, Contains, length}
use Rattle.stamp_renumber.specs.Classes.{new_start, new_write, new_access}

-- a start is below another exactly where it was
abbrev pub StartsKeepOrder : Type 0
StartsKeepOrder =
    (starts : List ℕ) (x y : ℕ) → Contains starts x → Contains starts y → nat_lt (new_start starts x) (new_start starts y) ≡ nat_lt x y

-- a start is at most an access stamp exactly where it was
abbrev pub AccessesKeepOrder : Type 0
AccessesKeepOrder =
    (starts : List ℕ) (x access write : ℕ) → Contains starts x → 0 < x →
    nat_le (new_start starts x) (new_access starts access write) ≡ nat_le x access

-- an access stamp is below its word's write stamp exactly where it was
abbrev pub WritesKeepOrder : Type 0
WritesKeepOrder =
    (starts : List ℕ) (access write : ℕ) → nat_lt (new_access starts access write) (new_write starts write) ≡ nat_lt access write

-- a write stamp is 0 exactly where it was
abbrev pub WritesStay : Type 0
WritesStay = (starts : List ℕ) (write : ℕ) → (new_write starts write == 0) ≡ (write == 0)

-- an access stamp is 0 exactly where it was, if no other is below a start
abbrev pub AccessesStay : Type 0
AccessesStay =
    (starts : List ℕ) (x access write : ℕ) → Contains starts x → 0 < x → (0 < access → x ≤ access) →
    (new_access starts access write == 0) ≡ (access == 0)

-- three for each start and three more is above each new stamp
abbrev pub NewStampsFit : Type 0
NewStampsFit =
    (starts : List ℕ) (access write : ℕ) →
    (new_start starts access < 3 * length starts + 3)
    × (new_write starts write < 3 * length starts + 3)
    × (new_access starts access write < 3 * length starts + 3)
