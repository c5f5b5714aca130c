-- What a read and a return make of the frames of a thread. Here the innermost frame comes first.
use Rattle.std.proofs.Common.{zero, suc}
use Rattle.std.specs.Prelude.{ℕ, pos, neg_ℤ, if◌then◌else◌, nat_le, List, [], ◌∷◌}
use Rattle.stamp_lanes.specs.Plain.{Place, is_foreign}
use Rattle.shadow_stack.specs.declared.sums.Sums.{Sums}
use Rattle.shadow_stack.specs.Frames.{Frame, plus}

-- no word
abbrev pub no_sums : Sums
no_sums = record { plain = pos 0; bare = pos 0 }

-- both sums, below zero
abbrev pub negated : Sums → Sums
negated s = record { plain = neg_ℤ s.plain; bare = neg_ℤ s.bare }

-- something is added to the sums of the innermost frame, if there is one
abbrev pub added_to_top : Sums → List Frame → List Frame
added_to_top by [] = []
added_to_top by (f ∷ frames) = record f { sums = plus f.sums by } ∷ frames

-- something is taken from the sums of the innermost of the frames that start at or before the stamp, if there is one
abbrev pub taken_at : Sums → ℕ → List Frame → List Frame
taken_at by stamp [] = []
taken_at by stamp (f ∷ frames) =
    if nat_le f.start stamp then record f { sums = plus f.sums (negated by) } ∷ frames else f ∷ taken_at by stamp frames

-- what a read of a word counts: one first read, and one plain read where no one else wrote the word since the thread's access
abbrev pub gain : Place → Sums
gain p = record { plain = if is_foreign p then pos 0 else pos 1; bare = pos 1 }

-- It counts in each open activation but those that were open at that access.
abbrev pub frames_after_read : Place → List Frame → List Frame
frames_after_read p frames = added_to_top (gain p) (taken_at (gain p) p.own frames)

abbrev pub frames_after_reads : List Place → List Frame → List Frame
frames_after_reads [] frames = frames
frames_after_reads (p ∷ places) frames = frames_after_reads places (frames_after_read p frames)

-- the innermost frame is popped, and its sums are added to the frame below
abbrev pub pop : List Frame → List Frame
pop [] = []
pop (f ∷ frames) = added_to_top f.sums frames

-- frames are popped, one after the other
abbrev pub frames_after_pops : ℕ → List Frame → List Frame
frames_after_pops zero frames = frames
frames_after_pops (suc n) frames = frames_after_pops n (pop frames)

-- and these are their sums, each as it is popped
abbrev pub popped : ℕ → List Frame → List Sums
popped zero frames = []
popped (suc n) [] = []
popped (suc n) (f ∷ frames) = f.sums ∷ popped n (pop (f ∷ frames))
