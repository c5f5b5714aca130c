-- The last text of a call, and its status.
use Rattle.std.specs.Prelude.{◌≡◌, ◌⊎◌, ◌<◌, ℕ, List, length}
use Rattle.host_io.specs.Sink.{SinkState, FailsToAppend, appended}
use Rattle.guest_words.specs.declared.endings.Finish.TheVariants.{Fault, Schedule}
use Rattle.aprof_top.specs.declared.ending.Verdict.TheVariants.{BadImage, BadSchedule, BadTrace, Ran}
use Rattle.aprof_top.specs.Ends.{End, end_status, end_text}
use Rattle.aprof_top.specs.Ends.End.{Decided, CannotRead, OutOfMemory}
use Rattle.aprof_top.specs.Texts.{out_of_memory_text}

-- the text was put whole, or its put failed
abbrev pub IsPut : List ℕ → SinkState → SinkState → Type 0
IsPut text old new = (new ≡ appended old text) ⊎ ((0 < length text) × FailsToAppend text old new)

-- the text has a path or a number in it, so that making it may run out of memory
abbrev pub IsMade : End → Type 0
IsMade (Decided (BadImage e)) = Unit {0}
IsMade (Decided (BadSchedule line)) = Unit {0}
IsMade (Decided (BadTrace why)) = Unit {0}
IsMade (Decided (Ran (Fault kind tid at))) = Unit {0}
IsMade (Decided (Ran (Schedule line))) = Unit {0}
IsMade (CannotRead path) = Unit {0}
IsMade _ = ⊥

-- The last text was put, or its put failed: the status is the end's.
pub record Tells (end : End) (status : ℕ) (old new : SinkState) : Type 0 where
  pub status_is : status ≡ end_status end
  pub text : IsPut (end_text end) old new

-- The last text could not be allocated: the status is that of out of memory. No text follows one that was refused.
pub record CannotAllocateText (end : End) (status : ℕ) (old new : SinkState) : Type 0 where
  pub status_is : status ≡ end_status OutOfMemory
  pub some : 0 < length (end_text end)
  pub text : (new ≡ old) ⊎ (IsMade end × IsPut out_of_memory_text old new)

abbrev pub LastText : End → ℕ → SinkState → SinkState → Type 0
LastText end status old new = Tells end status old new ⊎ CannotAllocateText end status old new
