-- Targets of returns that no open call has. Return addresses come the outermost call's first.
use Rattle.std.specs.Prelude.{◌≡◌, ℕ, ◌≤◌, List, Option, All, length, min, reverse, take}
use Rattle.trace_model.specs.Activations.{count_returned}
use Rattle.call_tracker.specs.declared.missed.Missed.{Missed}

-- none of the n outermost calls returns to the target
abbrev pub IsMissed : List (Option ℕ) → ℕ → ℕ → Type 0
IsMissed backs target n = count_returned target (reverse (take n backs)) ≡ 0

-- What is remembered is so of these calls: each target is missed by those that were open all the time since its search.
pub record AreMissed (backs : List (Option ℕ)) (m : Missed) : Type 0 where
  pub few : m.low ≤ length backs
  pub each : All (λ miss. IsMissed backs miss.target (min miss.depth m.low)) m.places
