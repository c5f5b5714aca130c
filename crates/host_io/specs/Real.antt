-- What the files of the system, a sink over a writer and one that drops all mean: counts alone, since nothing is known of
-- what they hold.
use Rattle.std.specs.Prelude.{None}
use Rattle.host_io.specs.Files.{FilesState}
use Rattle.host_io.specs.Sink.{SinkState}
use Rattle.host_io.specs.declared.drop_sink.DropSink.{DropSink}
use Rattle.host_io.specs.declared.real_files.RealFiles.{RealFiles}
use Rattle.host_io.specs.declared.stream_sink.StreamSink.{StreamSink}

-- what files of the system mean: they tell neither contents nor failed paths
abbrev pub real_state : {R : Type 0} → RealFiles R → FilesState
real_state f = record { contents = None; failed_paths = None; faults = f.faults; oversized = f.oversized }

-- what a sink over a writer means: it tells no bytes
abbrev pub stream_state : {W : Type 0} → StreamSink W → SinkState
stream_state s = record { bytes = None; faults = s.faults }

-- what a sink that drops its bytes means: it tells none, and none fails
abbrev pub drop_state : DropSink → SinkState
drop_state s = record { bytes = None; faults = 0 }

-- the writer of a sink
abbrev pub writer_of : {W : Type 0} → StreamSink W → W
writer_of s = s.inner
