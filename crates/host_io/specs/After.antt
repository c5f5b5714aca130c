-- What the objects of this crate mean after a call, by how the call ended.
use Rattle.std.specs.Prelude.{ℕ, ◌/◌, List, length, take, Result, Ok, Err, Vec}
use Rattle.std.specs.Io.KnownBytes.{append_known}
use Rattle.std.specs.declared.alloc.Global.{Global}
use Rattle.host_io.specs.declared.files.LoadError.{LoadError}
use Rattle.host_io.specs.declared.files.LoadError.TheVariants as load
use Rattle.host_io.specs.declared.files.StoreError.{StoreError}
use Rattle.host_io.specs.declared.files.StoreError.TheVariants as store
use Rattle.host_io.specs.declared.sink.PutError.{PutError}
use Rattle.host_io.specs.declared.sink.PutError.TheVariants as put
use Rattle.host_io.specs.Faults.{counted}
use Rattle.host_io.specs.Files.{FilesState, stored_in, with_path}
use Rattle.host_io.specs.Sink.{SinkState, appended}

-- one more failure, at this path
abbrev pub with_failure : List ℕ → FilesState → FilesState
with_failure path files = record files { failed_paths = with_path path files.failed_paths; faults = counted files.faults }

-- files after a load that ended so: only a failure and a passed limit are noted
abbrev pub after_load : List ℕ → Result (Vec ℕ Global) LoadError → FilesState → FilesState
after_load path (Ok bytes) files = files
after_load path (Err load.Failed) files = with_failure path files
after_load path (Err load.TooLarge) files = record files { oversized = counted files.oversized }
after_load path (Err load.Memory) files = files

-- files after a store that ended so: a failed one leaves the path's content
abbrev pub after_store : List ℕ → List ℕ → Result Unit StoreError → FilesState → FilesState
after_store path bytes (Ok done) files = stored_in files path bytes
after_store path bytes (Err store.Failed) files = with_failure path files
after_store path bytes (Err store.Memory) files = files

-- a sink after a put that ended so: a failed one has put the first half of its piece, rounded down
abbrev pub after_put : List ℕ → Result Unit PutError → SinkState → SinkState
after_put piece (Ok done) sink = appended sink piece
after_put piece (Err put.Failed) sink = record { bytes = append_known sink.bytes (take (length piece / 2) piece); faults = counted sink.faults }
after_put piece (Err put.Memory) sink = sink
