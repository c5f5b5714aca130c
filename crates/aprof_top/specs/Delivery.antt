-- How an outcome is handed out to the sinks and the files.
use Rattle.std.specs.Prelude.{◌≡◌, ◌⊎◌, ◌<◌, ℕ, List, [], ◌∷◌, ◌++◌, length, take, slice_get, Some}
use Rattle.std.specs.Io.KnownBytes.{append_known}
use Rattle.guest_kernel.specs.declared.channel.Channel.TheVariants as channel
use Rattle.host_io.specs.Faults.{Rose}
use Rattle.host_io.specs.Files.{FilesState, FailsToStore}
use Rattle.host_io.specs.Sink.{SinkState, appended}
use Rattle.aprof_top.specs.declared.ending.Verdict.TheVariants.{TooLarge}
use Rattle.aprof_top.specs.Outcome.{Outcome, Write, err_of, out_of, put_on}
use Rattle.aprof_top.specs.Outside.{MetTooLong, Outside, with_stores}

-- All of the output was put.
pub record PutsOutput (outcome : Outcome) (before after : Outside) : Type 0 where
  pub out : after.out ≡ appended before.out (out_of outcome)
  pub err : after.err ≡ appended before.err (err_of outcome)

-- All was put and stored: the output, the files, and then the statistics on `err`. No load and no store failed, but perhaps one
-- that met a file that is too long.
pub record DoesAll (outcome : Outcome) (before after : Outside) : Type 0 where
  pub out : after.out ≡ appended before.out (out_of outcome)
  pub err : after.err ≡ appended (appended before.err (err_of outcome)) outcome.stats
  pub stored :
      (after.files ≡ with_stores outcome.stores before.files)
      ⊎ ((outcome.verdict ≡ TooLarge) × MetTooLong (with_stores outcome.stores before.files) after.files)

-- Of these stores the first were done, this many, and the next failed: what its path has is unknown.
pub record StoreFails (stores : List (List ℕ × List ℕ)) (old new : FilesState) : Type 0 where
  pub count : ℕ
  pub store : List ℕ × List ℕ
  pub next : slice_get stores count ≡ Some store
  pub failed : FailsToStore store.0 (with_stores (take count stores) old) new

-- All of the output was put, and a store failed.
pub record FailsAtStore (outcome : Outcome) (before after : Outside) : Type 0 where
  pub output : PutsOutput outcome before after
  pub stored : StoreFails outcome.stores before.files after.files

-- a put of these bytes failed, and some of them came to the sink
pub record FailsWithin (bytes : List ℕ) (old new : SinkState) : Type 0 where
  pub some : 0 < length bytes
  pub faults : Rose old.faults new.faults
  pub count : ℕ
  pub gained : new.bytes ≡ append_known old.bytes (take count bytes)

-- A write of the output on `out` failed, and that ended the run: all writes before it were put, none behind it was, and nothing
-- was stored.
pub record FailsOnOut (outcome : Outcome) (before after : Outside) : Type 0 where
  pub earlier : List Write
  pub bytes : List ℕ
  pub later : List Write
  pub are : earlier ++ (channel.Out, bytes) ∷ later ≡ outcome.writes
  pub out : FailsWithin bytes (appended before.out (put_on channel.Out earlier)) after.out
  pub err : after.err ≡ appended before.err (put_on channel.Err earlier)
  pub files : after.files ≡ before.files

-- The same of a write on `err`.
pub record FailsOnErr (outcome : Outcome) (before after : Outside) : Type 0 where
  pub earlier : List Write
  pub bytes : List ℕ
  pub later : List Write
  pub are : earlier ++ (channel.Err, bytes) ∷ later ≡ outcome.writes
  pub out : after.out ≡ appended before.out (put_on channel.Out earlier)
  pub err : FailsWithin bytes (appended before.err (put_on channel.Err earlier)) after.err
  pub files : after.files ≡ before.files

-- All of the output was put and all was stored, and the put of the statistics failed.
pub record FailsAtStats (outcome : Outcome) (before after : Outside) : Type 0 where
  pub out : after.out ≡ appended before.out (out_of outcome)
  pub err : FailsWithin outcome.stats (appended before.err (err_of outcome)) after.err
  pub files : after.files ≡ with_stores outcome.stores before.files

-- The first writes of an outcome were put, and its first files stored, without a failure, and no statistics; nothing was stored
-- before all of the output came.
pub record StopsShort (outcome : Outcome) (before after : Outside) : Type 0 where
  pub earlier : List Write
  pub later : List Write
  pub are : earlier ++ later ≡ outcome.writes
  pub out : after.out ≡ appended before.out (put_on channel.Out earlier)
  pub err : after.err ≡ appended before.err (put_on channel.Err earlier)
  pub count : ℕ
  pub files : after.files ≡ with_stores (take count outcome.stores) before.files
  pub output_first : (later ≡ []) ⊎ (count ≡ 0)
