-- The table as the program keeps it.
use Rattle.std.specs.Prelude.{◌≡◌, ◌≤◌, [], length}
use Rattle.std.specs.Vec.{vec_capacity}
use Rattle.guest_words.specs.declared.limits.TheConstants.{THREADS}
use Rattle.futex_table.specs.declared.table.FutexTable.TheInside.{Inside}
use Rattle.futex_table.specs.Once.{IsOnce}

-- No thread waits twice, at most `THREADS` wait, and each list has room for as many.
pub record IsTable (t : Inside) : Type 0 where
  pub once : IsOnce t.waiting.items
  pub few : length t.waiting.items ≤ THREADS
  pub none_spare : t.spare.items ≡ []
  pub none_taken : t.taken.items ≡ []
  pub room : THREADS ≤ vec_capacity t.waiting
  pub room_spare : THREADS ≤ vec_capacity t.spare
  pub room_taken : THREADS ≤ vec_capacity t.taken
