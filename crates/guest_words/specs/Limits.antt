-- The limits of the program, in numbers.
use Rattle.std.specs.Prelude.{◌≡◌, ◌^◌}
use Rattle.guest_words.specs.declared.limits.TheConstants.{SYSCALL_EVENTS, CONTEXTS, DEMO_ROUTINES, FILE_BYTES, INPUT_BYTES, LAST_TID, NAME_BYTES, PAGES, QUANTUM_STEPS, RUN_STEPS, STACK_PAGES, THREADS, TRACE_BYTES, TRACE_WEIGHT}

-- Each limit that definitions cite by its name.
pub record AreLimits : Type 0 where
  -- pages of 4096 bytes of a guest, its stack's among them
  pub pages : PAGES ≡ 16384
  pub stack_pages : STACK_PAGES ≡ 2048
  -- threads that live at one time, and the last number of a thread
  pub threads : THREADS ≡ 32
  pub last_tid : LAST_TID ≡ 4194303
  -- events of one system call: its table of parts, and each of 1024 parts
  pub syscall_events : SYSCALL_EVENTS ≡ 1025
  -- steps of a run, and of a turn
  pub run_steps : RUN_STEPS ≡ 10 ^ 12
  pub quantum_steps : QUANTUM_STEPS ≡ 10 ^ 9
  -- the weight of a trace is below this
  pub trace_weight : TRACE_WEIGHT ≡ 2 ^ 62
  -- bytes of a routine's name, of a file that is loaded, of a guest's input files and standard input together, of a stored trace
  pub name_bytes : NAME_BYTES ≡ 1024
  pub file_bytes : FILE_BYTES ≡ 16777216
  pub input_bytes : INPUT_BYTES ≡ 67108864
  pub trace_bytes : TRACE_BYTES ≡ 67108864
  -- calling contexts of a run
  pub contexts : CONTEXTS ≡ 4294967294
  -- routines of the demo
  pub demo_routines : DEMO_ROUTINES ≡ 40000
