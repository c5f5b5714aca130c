-- The profiles of short runs, worked out by hand from the meaning of each event. Traces stand in order of time.
use Rattle.std.specs.Prelude.{◌≡◌, ℕ, ◌+◌, List, [], ◌∷◌, reverse}
use Rattle.trace_model.specs.declared.event_kinds.Event.{Event}
use Rattle.trace_model.specs.declared.event_kinds.Event.TheVariants.{Step, Read, Write, Fill, Call, Ret, Start, End}
use Rattle.trace_model.specs.declared.slow_profile.Done.{Done}
use Rattle.trace_model.specs.Profile.{done}
use Rattle.trace_model.specs.WellFormed.{IsWellFormed}

-- an activation with these counts of reads: plain ones, those of each cause, and words that it read first
abbrev pub of_reads : ℕ → ℕ → ℕ → ℕ → ℕ → ℕ → ℕ → Done
of_reads t entry cost plain thread kernel bare = record {
  tid = t;
  entry = entry;
  size = plain + thread + kernel;
  cost = cost;
  plain = plain;
  thread = thread;
  kernel = kernel;
  bare = bare;
}

-- an activation all of whose reads were plain and first
abbrev pub of_thread : ℕ → ℕ → ℕ → ℕ → Done
of_thread t entry size cost = of_reads t entry cost size 0 0 size

-- three instructions, no access
abbrev pub smallest_guest : List Event
smallest_guest = Start 1 0x10054 ∷ Step 1 ∷ Step 1 ∷ Step 1 ∷ End 1 ∷ []

-- a word that is read twice counts once
abbrev pub repeated_read : List Event
repeated_read =
    Start 1 0x10054 ∷ Step 1 ∷ Step 1 ∷ Call 1 0x10064 0x1005c ∷ Step 1 ∷ Read 1 16640 1 ∷ Step 1 ∷
    Read 1 16640 1 ∷ Step 1 ∷ Ret 1 0x1005c ∷ Step 1 ∷ Step 1 ∷ End 1 ∷ []

-- a word that the routine wrote first is known
abbrev pub first_access_a_write : List Event
first_access_a_write =
    Start 1 0x10054 ∷ Step 1 ∷ Step 1 ∷ Call 1 0x10064 0x1005c ∷ Step 1 ∷ Write 1 16640 1 ∷ Step 1 ∷
    Read 1 16640 1 ∷ Step 1 ∷ Ret 1 0x1005c ∷ Step 1 ∷ Step 1 ∷ End 1 ∷ []

-- what a callee read is known to its caller
abbrev pub descendant_reads : List Event
descendant_reads =
    Start 1 0x10054 ∷ Step 1 ∷ Step 1 ∷ Call 1 0x10064 0x1005c ∷ Step 1 ∷ Call 1 0x10070 0x10068 ∷
    Step 1 ∷ Read 1 16640 1 ∷ Step 1 ∷ Ret 1 0x10068 ∷ Step 1 ∷ Read 1 16640 1 ∷ Step 1 ∷
    Ret 1 0x1005c ∷ Step 1 ∷ Step 1 ∷ End 1 ∷ []

-- a callee reads anew what its caller had read
abbrev pub caller_has_read : List Event
caller_has_read =
    Start 1 0x10054 ∷ Step 1 ∷ Step 1 ∷ Call 1 0x10064 0x1005c ∷ Step 1 ∷ Read 1 16640 1 ∷ Step 1 ∷
    Call 1 0x10070 0x1006c ∷ Step 1 ∷ Read 1 16640 1 ∷ Step 1 ∷ Ret 1 0x1006c ∷ Step 1 ∷
    Ret 1 0x1005c ∷ Step 1 ∷ Step 1 ∷ End 1 ∷ []

-- a word that the kernel filled counts again
abbrev pub kernel_fills : List Event
kernel_fills =
    Start 1 0x10054 ∷ Step 1 ∷ Step 1 ∷ Step 1 ∷ Step 1 ∷ Step 1 ∷ Call 1 0x10074 0x10068 ∷ Step 1 ∷
    Step 1 ∷ Fill 16640 2 ∷ Step 1 ∷ Read 1 16640 1 ∷ Step 1 ∷ Read 1 16641 1 ∷ Step 1 ∷ Step 1 ∷
    Fill 16640 2 ∷ Step 1 ∷ Read 1 16640 1 ∷ Step 1 ∷ Read 1 16641 1 ∷ Step 1 ∷ Ret 1 0x10068 ∷
    Step 1 ∷ Step 1 ∷ Step 1 ∷ End 1 ∷ []

-- a word that another thread wrote between two reads counts again
abbrev pub other_thread_writes : List Event
other_thread_writes =
    Start 1 0x10054 ∷ Step 1 ∷ Step 1 ∷ Step 1 ∷ Step 1 ∷ Step 1 ∷ Start 2 0x10068 ∷ Step 2 ∷ Step 1 ∷
    Step 2 ∷ Step 1 ∷ Call 1 0x1007c 0x10070 ∷ Step 2 ∷ Step 1 ∷ Read 1 16640 1 ∷ Step 2 ∷
    Write 2 16640 1 ∷ Step 1 ∷ Step 2 ∷ Step 1 ∷ Read 1 16640 1 ∷ Step 2 ∷ Step 1 ∷ Ret 1 0x10070 ∷
    Step 2 ∷ Step 1 ∷ Step 2 ∷ Step 1 ∷ Step 2 ∷ Step 1 ∷ End 1 ∷ End 2 ∷ []

-- the same run where the other thread never comes
abbrev pub other_thread_waits : List Event
other_thread_waits =
    Start 1 0x10054 ∷ Step 1 ∷ Step 1 ∷ Step 1 ∷ Step 1 ∷ Step 1 ∷ Start 2 0x10068 ∷ Step 1 ∷ Step 1 ∷
    Call 1 0x1007c 0x10070 ∷ Step 1 ∷ Read 1 16640 1 ∷ Step 1 ∷ Step 1 ∷ Read 1 16640 1 ∷ Step 1 ∷
    Ret 1 0x10070 ∷ Step 1 ∷ Step 1 ∷ Step 1 ∷ End 1 ∷ End 2 ∷ []

-- the thread's own write in between hides the other thread's
abbrev pub own_write_between : List Event
own_write_between =
    Start 1 0x10054 ∷ Step 1 ∷ Step 1 ∷ Step 1 ∷ Step 1 ∷ Step 1 ∷ Start 2 0x10068 ∷ Step 2 ∷ Step 1 ∷
    Step 2 ∷ Step 1 ∷ Call 1 0x1007c 0x10070 ∷ Step 2 ∷ Step 1 ∷ Read 1 16640 1 ∷ Step 2 ∷
    Write 2 16640 1 ∷ Step 1 ∷ Write 1 16640 1 ∷ Step 2 ∷ Step 1 ∷ Read 1 16640 1 ∷ Step 2 ∷ Step 1 ∷
    Ret 1 0x10070 ∷ Step 2 ∷ Step 1 ∷ Step 2 ∷ Step 1 ∷ Step 2 ∷ Step 1 ∷ End 1 ∷ End 2 ∷ []

-- a return that no open call has as its address ends nothing
abbrev pub unmatched_return : List Event
unmatched_return =
    Start 1 0x10054 ∷ Step 1 ∷ Call 1 0x10060 0x10058 ∷ Step 1 ∷ Call 1 0x1006c 0x10064 ∷ Step 1 ∷
    Step 1 ∷ Ret 1 0x10068 ∷ Step 1 ∷ Ret 1 0x10058 ∷ Step 1 ∷ Step 1 ∷ End 1 ∷ []

-- their profiles, and that those of the kernel's fills and of the own write in between are well formed
pub record WorkedTraces : Type 0 where
  pub smallest : done (reverse smallest_guest) ≡ of_thread 1 0x10054 0 3 ∷ []
  pub repeated : done (reverse repeated_read) ≡ of_thread 1 0x10064 1 3 ∷ of_thread 1 0x10054 1 7 ∷ []
  pub written_first : done (reverse first_access_a_write) ≡ of_thread 1 0x10064 0 3 ∷ of_thread 1 0x10054 0 7 ∷ []
  pub descendant :
      done (reverse descendant_reads)
      ≡ of_thread 1 0x10070 1 2 ∷ of_thread 1 0x10064 1 5 ∷ of_thread 1 0x10054 1 9 ∷ []
  pub caller :
      done (reverse caller_has_read)
      ≡ of_thread 1 0x10070 1 2 ∷ of_thread 1 0x10064 1 5 ∷ of_thread 1 0x10054 1 9 ∷ []
  pub filled : done (reverse kernel_fills) ≡ of_reads 1 0x10074 9 0 0 4 2 ∷ of_reads 1 0x10054 17 0 0 4 2 ∷ []
  pub other_writes :
      done (reverse other_thread_writes)
      ≡ of_reads 1 0x1007c 4 1 1 0 1 ∷ of_reads 1 0x10054 14 1 1 0 1 ∷ of_thread 2 0x10068 0 9 ∷ []
  pub other_waits :
      done (reverse other_thread_waits)
      ≡ of_thread 1 0x1007c 1 4 ∷ of_thread 1 0x10054 1 14 ∷ of_thread 2 0x10068 0 0 ∷ []
  pub own_write :
      done (reverse own_write_between)
      ≡ of_thread 1 0x1007c 1 4 ∷ of_thread 1 0x10054 1 14 ∷ of_thread 2 0x10068 0 9 ∷ []
  pub unmatched :
      done (reverse unmatched_return)
      ≡ of_thread 1 0x1006c 0 3 ∷ of_thread 1 0x10060 0 4 ∷ of_thread 1 0x10054 0 7 ∷ []
  pub filled_well : IsWellFormed (reverse kernel_fills)
  pub own_write_well : IsWellFormed (reverse own_write_between)
