-- The deadlines as the program keeps them.
use Rattle.std.specs.Prelude.{◌≤◌, length}
use Rattle.std.specs.Vec.{vec_capacity}
use Rattle.guest_words.specs.declared.limits.TheConstants.{THREADS}
use Rattle.virtual_clock.specs.declared.deadlines.Deadlines.TheInside.{Inside}
use Rattle.virtual_clock.specs.Once.{IsOnce}

-- No thread has two, there are at most `THREADS`, and there is room for as many.
pub record IsDeadlines (d : Inside) : Type 0 where
  pub once : IsOnce d.list.items
  pub few : length d.list.items ≤ THREADS
  pub room : THREADS ≤ vec_capacity d.list
