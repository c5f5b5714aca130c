-- The open calls of a thread, with what it counts.
use Rattle.std.specs.Prelude.{ℕ, List, Option}

-- What a thread has counted: its steps, and the words that it read where another thread, or the kernel, had written last.
pub record Counts : Type 0 where
  pub steps : ℕ
  pub thread : ℕ
  pub kernel : ℕ

abbrev pub no_counts : Counts
no_counts = record { steps = 0; thread = 0; kernel = 0 }

-- What is kept of an open call: entry and return address, and the thread's counts when it began.
pub record CountedCall : Type 0 where
  pub entry : ℕ
  pub back : Option ℕ
  pub earlier : Counts

-- The open calls, the innermost first, and the thread's counts.
pub record Calls : Type 0 where
  pub list : List CountedCall
  pub counts : Counts
