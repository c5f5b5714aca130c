-- What files and a sink in memory mean.
use Rattle.std.specs.Prelude.{◌≡◌, ◌⊎◌, ℕ, List, map, Some, None, Contains, string_bytes}
use Rattle.std.specs.Option.{option_map}
use Rattle.std.specs.BTreeMap.{get_by_text}
use Rattle.host_io.specs.Files.{Contents, FilesState}
use Rattle.host_io.specs.Sink.{SinkState}
use Rattle.host_io.specs.declared.memory_files.MemoryFiles.{MemoryFiles}
use Rattle.host_io.specs.declared.memory_sink.MemorySink.{MemorySink}

-- the bytes of the file at each path
abbrev pub files_contents : MemoryFiles → Contents
files_contents m path = option_map (λ bytes. bytes.items) (get_by_text m.files path)

-- what the object means: it tells all
abbrev pub files_state : MemoryFiles → FilesState
files_state m = record {
  contents = Some (files_contents m);
  failed_paths = Some (map string_bytes m.failed_paths.items);
  faults = m.faults;
  oversized = m.oversized;
}

-- the number of the next load or store
abbrev pub next_call : MemoryFiles → ℕ
next_call m = m.calls

-- the numbers of the loads and stores that are made to fail
abbrev pub failing_calls : MemoryFiles → List ℕ
failing_calls m = m.failing_calls.items

-- the next load or store is made to fail
abbrev pub IsToFail : MemoryFiles → Type 0
IsToFail m = Contains (failing_calls m) (next_call m)

-- the next load, of this path, is made to fail, or there is no such file
abbrev pub LoadIsToFail : MemoryFiles → List ℕ → Type 0
LoadIsToFail m path = IsToFail m ⊎ (files_contents m path ≡ None)

-- what the sink means: it tells all
abbrev pub sink_state : MemorySink → SinkState
sink_state s = record { bytes = Some s.bytes.items; faults = s.faults }

-- the number of the next put
abbrev pub next_put : MemorySink → ℕ
next_put s = s.calls

-- the numbers of the puts that are made to fail
abbrev pub failing_puts : MemorySink → List ℕ
failing_puts s = s.failing_calls.items

-- the next put is made to fail
abbrev pub PutIsToFail : MemorySink → Type 0
PutIsToFail s = Contains (failing_puts s) (next_put s)
