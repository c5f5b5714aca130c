-- Why the reads that make a size count: how each word was touched last in the whole past.
-- `inside` are the events inside an activation, and `past` those before them, with the event that began it; so
-- `inside ++ past` is the whole past. In all of them the newest event comes first.
use Rattle.std.specs.Prelude.{ℕ, Bool, true, false, not, ◌&&◌, List, ◌++◌}
use Rattle.trace_model.specs.declared.event_kinds.Event.{Event}
use Rattle.trace_model.specs.declared.event_kinds.Touch.{Touch}
use Rattle.trace_model.specs.declared.event_kinds.Touch.TheVariants.{Untouched, ByItself, ByOther, ByKernel}
use Rattle.trace_model.specs.Sizes.{known, last_touch, count_pairs}

-- Why a read of a word counts: another thread wrote the word last, the kernel filled it last, or neither.
pub data Cause : Type 0 where
  Plain : Cause
  OtherThread : Cause
  Kernel : Cause

-- a read of a word that was last touched so has the cause
abbrev pub is_by : Cause → Touch → Bool
is_by OtherThread ByOther = true
is_by Kernel ByKernel = true
is_by Plain Untouched = true
is_by Plain ByItself = true
is_by cause touch = false

-- a read of the word by thread t counts, by the cause
abbrev pub counts_by : Cause → List Event → List Event → ℕ → ℕ → Bool
counts_by cause inside past t l = not (known inside t l) && is_by cause (last_touch (inside ++ past) t l)

-- a part of the size: each pair of a read and a word that counts by the cause
abbrev pub part : Cause → List Event → List Event → ℕ → ℕ
part cause inside past t = count_pairs (λ earlier l. counts_by cause earlier past t l) inside t

-- the pairs of a read by thread t and a word of it that have the cause, in the whole past
abbrev pub caused : Cause → List Event → ℕ → ℕ
caused cause past t = count_pairs (λ earlier l. is_by cause (last_touch earlier t l)) past t
