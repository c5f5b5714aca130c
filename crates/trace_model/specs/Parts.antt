-- A trace in parts, one for each instruction.
use Rattle.std.specs.Prelude.{ℕ, ◌<◌, ◌≤◌, Bool, true, false, List, [], ◌∷◌, length, All}
use Rattle.std.specs.List.{sum_by}
use Rattle.guest_words.specs.declared.limits.TheConstants.{RUN_STEPS}
use Rattle.trace_model.specs.declared.event_kinds.Event.{Event}
use Rattle.trace_model.specs.declared.event_kinds.Event.TheVariants.{Step, Read}
use Rattle.trace_model.specs.Profile.{steps}
use Rattle.trace_model.specs.WellFormed.{IsLight}

abbrev pub is_step : Event → Bool
is_step (Step _) = true
is_step _ = false

-- the parts with one more event, which begins a part where it is a step or the first event of all
abbrev pub with_event : Event → Bool → List (List Event) → List (List Event)
with_event e false (part ∷ parts) = (e ∷ part) ∷ parts
with_event e _ parts = (e ∷ []) ∷ parts

-- the past, cut before each step; the newest part first, and in it the newest event
abbrev pub parts : List Event → List (List Event)
parts [] = []
parts (e ∷ past) = with_event e (is_step e) (parts past)

-- how many words the event reads
abbrev pub count_read : Event → ℕ
count_read (Read _ _ count) = count
count_read _ = 0

-- a part has few events, and they read few words
pub record IsShort (part : List Event) : Type 0 where
  pub events : length part < 1100
  pub words : sum_by count_read part < 65536

-- A trace of at most `RUN_STEPS` steps is light where each of its parts is short.
abbrev pub ShortPartsAreLight : Type 0
ShortPartsAreLight = (past : List Event) → steps past ≤ RUN_STEPS → All IsShort (parts past) → IsLight past
