-- What is owed where accesses are added to a routine.
use Rattle.std.specs.Prelude.{ℕ, ◌+◌, ◌<◌, ◌^◌, List}
use Rattle.cost_points.specs.Keys.{put}
use Rattle.cache_profile.specs.declared.routines.RoutineMisses.{RoutineMisses}

-- the routines with one at the entry: where there is none, it is a new one with no accesses
abbrev pub with_routine : (entry : ℕ) → List RoutineMisses → List RoutineMisses
with_routine entry rs = put (λ r. r.entry) entry (λ r. r) (record { entry = entry; accesses = 0; misses = 0 }) rs

-- a routine with more accesses and misses
abbrev pub plus : (accesses misses : ℕ) → RoutineMisses → RoutineMisses
plus accesses misses r = record { entry = r.entry; accesses = r.accesses + accesses; misses = r.misses + misses }

-- There is room for the accesses of one more event.
pub record HasRoom (r : RoutineMisses) : Type 0 where
  pub accesses : r.accesses < 2 ^ 127
  pub misses : r.misses < 2 ^ 127
