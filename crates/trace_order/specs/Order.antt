-- What of the events so far tells which event may come next. A past is the list of these events, the newest first.
use Rattle.std.specs.Prelude.{◌≡◌, ℕ, ◌<◌, ◌≤◌, Bool, true, false, nat_eq, List, Option, All, AllPairs}
use Rattle.std.specs.List.{list_any}
use Rattle.guest_words.specs.declared.limits.TheConstants.{TRACE_WEIGHT}
use Rattle.trace_model.specs.declared.event_kinds.Event.{Event}
use Rattle.trace_model.specs.declared.event_kinds.Event.TheVariants.{Start}
use Rattle.trace_model.specs.WellFormed.{is_live, last_step, greatest_start, weight, IsWellFormed}
use Rattle.trace_order.specs.Progress.{IsAllowed, ProgressState, is_of_one}

-- the live threads by rising number, the thread of the last step, the greatest number that started, and the weight
pub record OrderState : Type 0 where
  pub live : List ℕ
  pub last : Option ℕ
  pub greatest : ℕ
  pub weight : ℕ

-- the thread is one of these
abbrev pub is_among : List ℕ → ℕ → Bool
is_among threads t = list_any (nat_eq t) threads

-- What holds of every state.
pub record IsInOrder (o : OrderState) : Type 0 where
  pub rising : AllPairs (λ t u. t < u) o.live
  pub started : All (λ t. t ≤ o.greatest) o.live
  pub light : o.weight < TRACE_WEIGHT

-- It is that of the past, which is one that a run can have.
pub record IsOrderOf (o : OrderState) (past : List Event) : Type 0 where
  pub live : (t : ℕ) → is_among o.live t ≡ is_live past t
  pub last : o.last ≡ last_step past
  pub greatest : o.greatest ≡ greatest_start past
  pub weight : o.weight ≡ weight past
  pub formed : IsWellFormed past

-- all but the live threads
abbrev pub progress_of : OrderState → ProgressState
progress_of o = record { last = o.last; greatest = o.greatest; weight = o.weight }

-- The event may come next, by the state alone: what it shows holds for every past whose order it is.
abbrev pub MayCome : OrderState → Event → Type 0
MayCome o e = IsAllowed e (is_of_one (is_among o.live) e) (progress_of o)

-- a thread starts
abbrev pub is_start : Event → Bool
is_start (Start _ _) = true
is_start _ = false
