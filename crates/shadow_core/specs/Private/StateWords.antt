-- The words of a range, read at once.
use Rattle.std.specs.Prelude.{◌≡◌, ℕ, ◌+◌, List, length, pos, reverse, slice_index}
use Rattle.stamp_lanes.specs.declared.bulk.Bulk.{Bulk}
use Rattle.stamp_lanes.specs.Plain.{Place, IsBulk}
use Rattle.shadow_stack.specs.Frames.{Frame, added, starts_of}
use Rattle.stamp_table.specs.Frames.{frames_after_reads}
use Rattle.stamp_table.specs.Stands.{IsFalling}

-- All words are read at once, where none is old by the start of the innermost frame, which is at the place `last`.
abbrev pub ReadsAllWords : Type 0
ReadsAllWords = (places : List Place) (bulk : Bulk) (limit last : ℕ) (fs : List Frame) → length fs ≡ last + 1 →
    IsFalling limit (starts_of (reverse fs)) → IsBulk (slice_index (starts_of fs) last) places bulk → bulk.old ≡ 0 →
    reverse (added last (record { plain = pos bulk.plain; bare = pos bulk.untouched }) fs) ≡ frames_after_reads places (reverse fs)
