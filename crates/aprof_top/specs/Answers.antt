-- What a call answers, by its words and by what it found and left outside.
use Rattle.std.specs.Prelude.{◌≡◌, ◌≢◌, ◌⊎◌, ℕ, List}
use Rattle.host_io.specs.Sink.{SinkState}
use Rattle.aprof_top.specs.Ends.{End, Reaches}
use Rattle.aprof_top.specs.Ends.End.{Decided, CannotRead, CannotWrite, CannotPut}
use Rattle.aprof_top.specs.LastText.{LastText}
use Rattle.aprof_top.specs.Outside.{Outside, outside, NothingRose}
use Rattle.aprof_top.specs.declared.ending.Verdict.{Verdict}

-- The call ended so, and then put its last text on `err`, which stood so before it.
pub record EndsBy (words : List (List ℕ)) (end : End) (status : ℕ) (before after : Outside) : Type 0 where
  pub err : SinkState
  pub reached : Reaches words end before (outside after.files after.out err)
  pub told : LastText end status err after.err

-- A status of the written product: it is neither that of a failed load, put or store nor that of out of memory.
pub record IsWritten (status : ℕ) : Type 0 where
  pub could_read : status ≢ 2
  pub could_write : status ≢ 4
  pub had_memory : status ≢ 10

-- The status of a call on these words says how it ended.
pub record IsAnswered (words : List (List ℕ)) (status : ℕ) (before after : Outside) : Type 0 where
  -- every status but 2, 4 and 10 is the written product's, with all that it puts and stores
  pub answers : IsWritten status → (verdict : Verdict) × EndsBy words (Decided verdict) status before after
  -- a load failed
  pub cannot_read : status ≡ 2 → (path : List ℕ) × EndsBy words (CannotRead path) status before after
  -- a store failed, or a put of the output
  pub cannot_write : status ≡ 4 → EndsBy words CannotWrite status before after ⊎ EndsBy words CannotPut status before after
  -- memory ran out, if only for the last text of another status
  pub out_of_memory : status ≡ 10 → (end : End) × EndsBy words end status before after
  -- if nothing failed, it answers as the written product does, or is out of memory
  pub complete : NothingRose before after → IsWritten status ⊎ (status ≡ 10)
