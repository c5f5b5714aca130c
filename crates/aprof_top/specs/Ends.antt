-- How a call ends before its last text: by its words, by what it found, and by what it left outside.
use Rattle.std.specs.Prelude.{◌≡◌, ◌⊎◌, ℕ, false, List, [], length, slice_get, Option, Some, MatchOption}
use Rattle.std.specs.List.{list_any}
use Rattle.command_line.specs.Options.{has_zero}
use Rattle.host_io.specs.Files.{FailsAt}
use Rattle.aprof_top.specs.Delivery.{DoesAll, FailsAtStats, FailsAtStore, FailsOnErr, FailsOnOut, StopsShort}
use Rattle.aprof_top.specs.Found.{Decision, Found, paths_of}
use Rattle.aprof_top.specs.Outcome.{IsUndecided, Outcome}
use Rattle.aprof_top.specs.Outside.{Outside}
use Rattle.aprof_top.specs.Texts.{cannot_read_text, cannot_write_text, out_of_memory_text}
use Rattle.aprof_top.specs.Verdicts.{IsOfRun, verdict_status, verdict_text}
use Rattle.aprof_top.specs.declared.ending.Verdict.{Verdict}

pub data End : Type 0 where
  -- as the written product answers
  Decided : Verdict → End
  -- the load of the file at this path failed
  CannotRead : List ℕ → End
  -- a store failed, or a put on `out`
  CannotWrite : End
  -- a put on `err` failed
  CannotPut : End
  -- out of memory
  OutOfMemory : End

-- its status
abbrev pub end_status : End → ℕ
end_status (Decided verdict) = verdict_status verdict
end_status (CannotRead path) = 2
end_status CannotWrite = 4
end_status CannotPut = 4
end_status OutOfMemory = 10

-- its last text; after a failed put on `err` nothing more is put there
abbrev pub end_text : End → List ℕ
end_text (Decided verdict) = verdict_text verdict
end_text (CannotRead path) = cannot_read_text path
end_text CannotWrite = cannot_write_text
end_text CannotPut = []
end_text OutOfMemory = out_of_memory_text

-- The load of the next path failed, where the files before it did not decide the answer. Nothing was put or stored.
pub record FailsToRead (words : List (List ℕ)) (path : List ℕ) (before after : Outside) : Type 0 where
  pub found : Found words before.files after.files
  pub undecided : IsUndecided found.asked found.files
  pub next : slice_get (paths_of found.asked) (length found.files) ≡ Some path
  pub failed : FailsAt path before.files after.files
  pub contents : after.files.contents ≡ before.files.contents
  pub out : after.out ≡ before.out
  pub err : after.err ≡ before.err

-- The outcome of a run or of the demo was handed out, and that failed.
pub record FailsToWrite (words : List (List ℕ)) (Fails : Outcome → Type 0) (before after : Outside) : Type 0 where
  pub decision : Decision words before.files after.files
  pub ran : IsOfRun decision.outcome.verdict
  pub fails : Fails decision.outcome

-- Memory ran out, before anything was done or while an outcome was handed out, and nothing failed. That a word has a zero
-- byte is told without allocating.
pub record RunsOutOfMemory (words : List (List ℕ)) (before after : Outside) : Type 0 where
  pub no_zero : list_any has_zero words ≡ false
  pub decision : Option (Decision words before.files after.files)
  pub done : MatchOption decision (after ≡ before) (λ decision. StopsShort decision.outcome before after)

-- how a call ends so
abbrev pub Reaches : List (List ℕ) → End → Outside → Outside → Type 0
Reaches words (Decided verdict) before after =
    (decision : Decision words before.files after.files) × (decision.outcome.verdict ≡ verdict) × DoesAll decision.outcome before after
Reaches words (CannotRead path) before after = FailsToRead words path before after
Reaches words CannotWrite before after =
    FailsToWrite words (λ outcome. FailsAtStore outcome before after ⊎ FailsOnOut outcome before after) before after
Reaches words CannotPut before after =
    FailsToWrite words (λ outcome. FailsOnErr outcome before after ⊎ FailsAtStats outcome before after) before after
Reaches words OutOfMemory before after = RunsOutOfMemory words before after
