-- A read of many words at once, where no word's last access lies in an outer activation alone.
use Rattle.std.specs.Prelude.{◌≡◌, ℕ, pos, List, ◌∷◌}
use Rattle.stamp_lanes.specs.declared.bulk.Bulk.{Bulk}
use Rattle.stamp_lanes.specs.Plain.{Place, IsBulk}
use Rattle.shadow_stack.specs.Frames.{Frame, starts_of}
use Rattle.stamp_table.specs.Frames.{frames_after_reads, added_to_top}
use Rattle.stamp_table.specs.Stands.{IsFalling}

-- where no place is old by the innermost start, a read changes the innermost frame alone, by two counts of the places
abbrev pub ReadsAtOnce : Type 0
ReadsAtOnce = (places : List Place) (bulk : Bulk) (limit : ℕ) (f : Frame) (frames : List Frame) →
    IsFalling limit (starts_of (f ∷ frames)) → IsBulk f.start places bulk → bulk.old ≡ 0 →
    frames_after_reads places (f ∷ frames) ≡ added_to_top (record { plain = pos bulk.plain; bare = pos bulk.untouched }) (f ∷ frames)
