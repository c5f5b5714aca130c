-- What the code's parts say of frames, as the stamp table has it. `fs` are frames as the code has them, the outermost first.
use Rattle.std.specs.Prelude.{◌≡◌, ℕ, ◌+◌, Bool, List, [], ◌∷◌, ◌++◌, length, reverse, count_by, Option, Some}
use Rattle.std.specs.Option.{option_map_or}
use Rattle.stamp_lanes.specs.Plain.{Place}
use Rattle.shadow_stack.specs.declared.sums.Sums.{Sums}
use Rattle.shadow_stack.specs.Frames.{Frame, IsLastAtMost, IsPopped, added, added_to_last, starts_of}
use Rattle.stamp_table.specs.Frames.{added_to_top, negated, taken_at, gain, frames_after_read, frames_after_reads, pop, popped, frames_after_pops}

-- ---- Frames.
-- a push puts the frame in front
abbrev pub PushesInFront : Type 0
PushesInFront = (fs : List Frame) (f : Frame) → reverse (fs ++ f ∷ []) ≡ f ∷ reverse fs

-- something is taken from the sums of the frame at the place, if there is one
abbrev pub taken : Sums → Option ℕ → List Frame → List Frame
taken by place fs = option_map_or (λ k. added k (negated by) fs) place fs

-- the place of the last start that is at most the stamp is that of the frame of which something is taken
abbrev pub TakesWhereFound : Type 0
TakesWhereFound = (by : Sums) (stamp : ℕ) (place : Option ℕ) (fs : List Frame) → IsLastAtMost (starts_of fs) stamp place →
    reverse (taken by place fs) ≡ taken_at by stamp (reverse fs)

-- the last frame is the innermost
abbrev pub AddsToTheTop : Type 0
AddsToTheTop = (by : Sums) (fs : List Frame) → reverse (added_to_last by fs) ≡ added_to_top by (reverse fs)

-- and so it is by its place
abbrev pub AddsAtTheLast : Type 0
AddsAtTheLast = (by : Sums) (k : ℕ) (fs : List Frame) → length fs ≡ k + 1 → reverse (added k by fs) ≡ added_to_top by (reverse fs)

-- a read of one word: its gain is taken where its access stamp is found, and added at the last place
abbrev pub ReadsWhereFound : Type 0
ReadsWhereFound = (p : Place) (place : Option ℕ) (k : ℕ) (fs : List Frame) → IsLastAtMost (starts_of fs) p.own place → length fs ≡ k + 1 →
    reverse (added k (gain p) (taken (gain p) place fs)) ≡ frames_after_read p (reverse fs)

-- a frame is popped with its sums
abbrev pub PopsTheTop : Type 0
PopsTheTop = (fs gs : List Frame) (sums : Sums) → IsPopped fs (Some sums) gs → (popped 1 (reverse fs) ≡ sums ∷ []) × (pop (reverse fs) ≡ reverse gs)

-- frames are popped, one after the other, with these sums
abbrev pub ArePopped : List Frame → List Sums → List Frame → Type 0
ArePopped fs [] gs = gs ≡ fs
ArePopped fs (sums ∷ more) gs = (rest : List Frame) × IsPopped fs (Some sums) rest × ArePopped rest more gs

-- as many pops give these sums in order, and leave these frames
abbrev pub PopsInOrder : Type 0
PopsInOrder = (fs gs : List Frame) (sums : List Sums) → ArePopped fs sums gs →
    (popped (length sums) (reverse fs) ≡ sums) × (frames_after_pops (length sums) (reverse fs) ≡ reverse gs)

-- ---- Reads of many words.
-- the words are read one after the other, or in parts
abbrev pub ReadsGoOn : Type 0
ReadsGoOn = (ps qs : List Place) (frames : List Frame) → frames_after_reads (ps ++ qs) frames ≡ frames_after_reads qs (frames_after_reads ps frames)

-- so are they counted
abbrev pub CountsGoOn : Type 0
CountsGoOn = (test : Place → Bool) (ps qs : List Place) → count_by test (ps ++ qs) ≡ count_by test ps + count_by test qs
