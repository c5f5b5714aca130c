-- Which event may come next, by the table alone, and what then fits.
use Rattle.std.specs.Prelude.{◌≡◌, ◌↔◌, ℕ, ◌+◌, ◌*◌, ◌<◌, ◌≤◌, ℤ, pos, neg_ℤ, ◌≤ℤ◌, Bool, true, not, ◌&&◌, ◌||◌, nat_eq, nat_le, nat_lt, List, ◌∷◌, Some, All, is_some, length}
use Rattle.std.specs.List.{range_with_len}
use Rattle.guest_words.specs.ByThread.{value_of}
use Rattle.guest_words.specs.declared.limits.TheConstants.{TRACE_WEIGHT}
use Rattle.trace_model.specs.declared.event_kinds.Event.{Event}
use Rattle.trace_model.specs.declared.event_kinds.Event.TheVariants.{Step, Read, Write, Fill, Call, Ret, Start, End}
use Rattle.trace_model.specs.WellFormed.{weight, weight_of, AreWords, IsWellFormed}
use Rattle.trace_model.specs.Depth.{count_begun, is_within, pending}
use Rattle.shadow_stack.specs.Frames.{Frame}
use Rattle.stamp_table.specs.Frames.{frames_after_reads, frames_after_pops}
use Rattle.stamp_table.specs.Table.{Thread, Table, places_read}
use Rattle.stamp_table.specs.Renewal.{all_starts}
use Rattle.stamp_table.specs.Stands.{Agrees, Stands}

-- the thread is in the table
abbrev pub IsThere : Table → ℕ → Type 0
IsThere table t = is_some (value_of table.threads t) ≡ true

-- and the last step is its own
abbrev pub IsRunningIn : Table → ℕ → Type 0
IsRunningIn table t = IsThere table t × (table.last ≡ Some t)

-- what `MayFollow` says of the past, of the table
abbrev pub Allows : Event → Table → Type 0
Allows (Step tid) table = IsThere table tid
Allows (Read tid first count) table = IsRunningIn table tid × AreWords first count
Allows (Write tid first count) table = IsRunningIn table tid × AreWords first count
Allows (Fill first count) table = AreWords first count
Allows (Call tid _ _) table = IsRunningIn table tid
Allows (Ret tid _) table = IsRunningIn table tid
Allows (Start tid _) table = table.greatest < tid
Allows (End tid) table = IsThere table tid

-- and the whole stays light
abbrev pub IsAllowed : Event → Table → Type 0
IsAllowed e table = Allows e table × (table.weight + weight_of e < TRACE_WEIGHT)

-- A table allows what may follow the past with which it agrees, and no more; so it tells for all such pasts at once.
abbrev pub AllowsWhatMayFollow : Type 0
AllowsWhatMayFollow = (e : Event) (table : Table) (past : List Event) → Agrees table past → IsAllowed e table ↔ IsWellFormed (e ∷ past)

-- The event begins no activation, or there are stamps for it: three for each frame, that of the new one too, and three more.
abbrev pub has_stamps : ℕ → Event → Table → Bool
has_stamps most e table = nat_eq (count_begun e) 0 || nat_le (3 * (length (all_starts table.threads) + 2)) most

-- what follows fits exactly where there are stamps for it
abbrev pub FitsByFrames : Type 0
FitsByFrames = (most : ℕ) (e : Event) (table : Table) (past : List Event) → Stands most table past →
    is_within most (e ∷ past) ≡ has_stamps most e table

-- It begins an activation, and three stamps for each that is then open and three more are more than there are.
abbrev pub is_too_deep : ℕ → Event → List Event → Bool
is_too_deep most e past = nat_lt 0 (count_begun e) && nat_lt most (3 * (pending past + 2))

-- what is too deep is what does not fit
abbrev pub DeepDoesNotFit : Type 0
DeepDoesNotFit = (most : ℕ) (e : Event) (table : Table) (past : List Event) → Stands most table past → is_too_deep most e past ≡ not (is_within most (e ∷ past))

-- the sum is at most so great, and minus it at least
abbrev pub IsWithin : ℕ → ℤ → Type 0
IsWithin most sum = (neg_ℤ (pos most) ≤ℤ sum) × (sum ≤ℤ pos most)

abbrev pub AreWithin : ℕ → List Frame → Type 0
AreWithin most frames = All (λ (f : Frame). IsWithin most f.sums.plain × IsWithin most f.sums.bare) frames

-- after `n` pops, each sum is within the weight
abbrev pub PopsStayWithin : Type 0
PopsStayWithin = (table : Table) (past : List Event) (t n : ℕ) (thread : Thread) → Agrees table past → value_of table.threads t ≡ Some thread →
    AreWithin (weight past) (frames_after_pops n thread.frames)

-- and after a read of words, within the weight and the words
abbrev pub SumsStayWithin : Type 0
SumsStayWithin = (table : Table) (past : List Event) (t first count : ℕ) (thread : Thread) → Agrees table past → value_of table.threads t ≡ Some thread →
    AreWithin (weight past + count) (frames_after_reads (places_read table thread (range_with_len first count)) thread.frames)

-- the counts of a thread are at most the weight
abbrev pub CountsStayWithin : Type 0
CountsStayWithin = (table : Table) (past : List Event) (t : ℕ) (thread : Thread) → Agrees table past → value_of table.threads t ≡ Some thread →
    (thread.counts.steps ≤ weight past) × (thread.counts.thread ≤ weight past) × (thread.counts.kernel ≤ weight past)
