-- The frames of a thread, the outermost first, and its calls, the innermost first.
use Rattle.std.proofs.Common.{zero, suc}
use Rattle.std.specs.Prelude.{◌≡◌, ℕ, ◌-◌, ◌<◌, ◌≤◌, ◌^◌, ℤ, pos, negsuc, ◌+ℤ◌, ◌≤ℤ◌, List, [], ◌∷◌, ◌++◌, map, length, slice_index, Option, Some, None}
use Rattle.std.specs.Option.{option_map_or}
use Rattle.call_tracker.specs.ThreadCalls.{CountedCall}
use Rattle.shadow_stack.specs.declared.sums.Sums.{Sums}

-- A frame: the start stamp of its activation, and its partial sums.
pub record Frame : Type 0 where
  pub start : ℕ
  pub sums : Sums

-- The frames, the calls, and how many of both can be pushed without allocating.
pub record Stack : Type 0 where
  pub list : List Frame
  pub calls : List CountedCall
  pub spare : ℕ

abbrev pub starts_of : List Frame → List ℕ
starts_of frames = map (λ (f : Frame). f.start) frames

-- each start is below all those that come after it
abbrev pub IsRising : List ℕ → Type 0
IsRising starts = (i j : ℕ) → i < j → j < length starts → slice_index starts i < slice_index starts j

-- the place of the last start that is at most n, where there is one
abbrev pub IsLastAtMost : List ℕ → ℕ → Option ℕ → Type 0
IsLastAtMost starts n None = (i : ℕ) → i < length starts → n < slice_index starts i
IsLastAtMost starts n (Some k) =
    (k < length starts) × (slice_index starts k ≤ n) × ((i : ℕ) → k < i → i < length starts → n < slice_index starts i)

-- a sum is a number of 64 bits with a sign
abbrev pub IsSum : ℤ → Type 0
IsSum n = (negsuc (2 ^ 63 - 1) ≤ℤ n) × (n ≤ℤ pos (2 ^ 63 - 1))

abbrev pub FitsSums : Sums → Type 0
FitsSums s = IsSum s.plain × IsSum s.bare

abbrev pub plus : Sums → Sums → Sums
plus s by = record { plain = s.plain +ℤ by.plain; bare = s.bare +ℤ by.bare }

-- a frame that begins
abbrev pub new_frame : ℕ → Frame
new_frame start = record { start = start; sums = record { plain = pos 0; bare = pos 0 } }

-- the frame at the place is changed
abbrev pub changed : ℕ → (Frame → Frame) → List Frame → List Frame
changed i change [] = []
changed zero change (f ∷ frames) = change f ∷ frames
changed (suc i) change (f ∷ frames) = f ∷ changed i change frames

-- something is added to its sums
abbrev pub added : ℕ → Sums → List Frame → List Frame
added i by frames = changed i (λ f. record f { sums = plus f.sums by }) frames

-- Where the innermost frame started after the stamp, `by` is added to its sums, and `back` to those of the innermost frame that
-- started at or before the stamp, if there is one. Else nothing changes.
pub record IsMoved (stamp : ℕ) (by back : Sums) (old new : List Frame) : Type 0 where
  pub top : ℕ
  pub depth : length old ≡ suc top
  pub moved : stamp < slice_index (starts_of old) top → (place : Option ℕ) × IsLastAtMost (starts_of old) stamp place
      × (new ≡ added top by (option_map_or (λ i. added i back old) place old))
  pub still : slice_index (starts_of old) top ≤ stamp → new ≡ old

-- the frames have these starts
abbrev pub restarted : List ℕ → List Frame → List Frame
restarted (start ∷ starts) (f ∷ frames) = record f { start = start } ∷ restarted starts frames
restarted _ frames = frames

-- something is added to the sums of the innermost frame, if there is one
abbrev pub added_to_last : Sums → List Frame → List Frame
added_to_last by [] = []
added_to_last by (f ∷ []) = record f { sums = plus f.sums by } ∷ []
added_to_last by (f ∷ g ∷ frames) = f ∷ added_to_last by (g ∷ frames)

-- the sums of the two innermost frames, if there are two, are together sums
abbrev pub FitsPop : List Frame → Type 0
FitsPop [] = Unit {0}
FitsPop (f ∷ []) = Unit {0}
FitsPop (f ∷ g ∷ []) = FitsSums (plus f.sums g.sums)
FitsPop (f ∷ g ∷ h ∷ frames) = FitsPop (g ∷ h ∷ frames)

-- The innermost frame is taken, with these sums, which are added to the frame below; or there was none.
abbrev pub IsPopped : List Frame → Option Sums → List Frame → Type 0
IsPopped old None new = (old ≡ []) × (new ≡ [])
IsPopped old (Some sums) new =
    (outer : List Frame) × (top : Frame) × (old ≡ outer ++ top ∷ []) × (top.sums ≡ sums) × (new ≡ added_to_last sums outer)
