-- Which traces a run can have.
use Rattle.std.specs.Prelude.{◌≡◌, ℕ, ◌+◌, ◌^◌, ◌<◌, ◌≤◌, max, Bool, true, false, not, ◌&&◌, ◌||◌, nat_eq, List, [], ◌∷◌, Option, Some, None}
use Rattle.guest_words.specs.declared.limits.TheConstants.{TRACE_WEIGHT}
use Rattle.trace_model.specs.declared.event_kinds.Event.{Event}
use Rattle.trace_model.specs.declared.event_kinds.Event.TheVariants.{Step, Read, Write, Fill, Call, Ret, Start, End}

-- the thread started, and did not end since
abbrev pub is_live : List Event → ℕ → Bool
is_live [] t = false
is_live (Start tid _ ∷ past) t = nat_eq t tid || is_live past t
is_live (End tid ∷ past) t = not (nat_eq t tid) && is_live past t
is_live (_ ∷ past) t = is_live past t

-- the thread of the last step
abbrev pub last_step : List Event → Option ℕ
last_step [] = None
last_step (Step tid ∷ past) = Some tid
last_step (_ ∷ past) = last_step past

-- the greatest thread number that started, or 0
abbrev pub greatest_start : List Event → ℕ
greatest_start [] = 0
greatest_start (Start tid _ ∷ past) = max tid (greatest_start past)
greatest_start (_ ∷ past) = greatest_start past

-- one for the event, and one for each word that it reads
abbrev pub weight_of : Event → ℕ
weight_of (Read _ _ count) = 1 + count
weight_of _ = 1

-- the number of the events, and of the words that they read
abbrev pub weight : List Event → ℕ
weight [] = 0
weight (e ∷ past) = weight past + weight_of e

-- light enough that no size and no cost passes a 64-bit number
abbrev pub IsLight : List Event → Type 0
IsLight past = weight past < TRACE_WEIGHT

-- there is at least one word, and all are words of the guest's memory
abbrev pub AreWords : ℕ → ℕ → Type 0
AreWords first count = (1 ≤ count) × (first + count ≤ 2 ^ 30)

-- the thread lives, and the last instruction is its own
abbrev pub IsRunning : List Event → ℕ → Type 0
IsRunning past t = (is_live past t ≡ true) × (last_step past ≡ Some t)

-- The event may come next: a thread that starts has a number above all that started, every other event of a thread is of
-- a live one, and an access, a call or a return is of the thread of the last step.
abbrev pub MayFollow : Event → List Event → Type 0
MayFollow (Step tid) past = is_live past tid ≡ true
MayFollow (Read tid first count) past = IsRunning past tid × AreWords first count
MayFollow (Write tid first count) past = IsRunning past tid × AreWords first count
MayFollow (Fill first count) past = AreWords first count
MayFollow (Call tid _ _) past = IsRunning past tid
MayFollow (Ret tid _) past = IsRunning past tid
MayFollow (Start tid _) past = greatest_start past < tid
MayFollow (End tid) past = is_live past tid ≡ true

-- each event may follow those before it, and the whole is light
abbrev pub IsWellFormed : List Event → Type 0
IsWellFormed [] = Unit {0}
IsWellFormed (e ∷ past) = MayFollow e past × IsLight (e ∷ past) × IsWellFormed past
