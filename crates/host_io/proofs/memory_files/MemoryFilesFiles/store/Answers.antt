use Rattle.std.proofs.Common.{refl}
use Rattle.host_io.specs.Memory.{files_contents, files_state}
use Rattle.host_io.proofs.Contents.{fails_to_store}
use Rattle.host_io.proofs.memory_files.MemoryFilesFiles.store.Goals as goal

pub returns-then-fails-clause-ends : goal.returns-then-fails-clause-ends
returns-then-fails-clause-ends c =
    let old = c.args.self.now in
    fails_to_store (files_contents old) (files_state old) (files_state c.note_failure.new.self) c.args.path.now refl c.in_ok-note_failure.ensures.ok
