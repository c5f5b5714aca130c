-- What the recursions say of a trace by the positions of its events, which count from 0 in time.
use Rattle.std.specs.Prelude.{◌≡◌, ◌≢◌, ◌⊎◌, ◌↔◌, ℕ, ◌+◌, ◌<◌, false, true, List, [], ◌∷◌, ◌++◌, length, reverse, take, drop, map, slice_get, Option, Some, None, All, AllPairs, Contains}
use Rattle.trace_model.specs.declared.event_kinds.Event.{Event}
use Rattle.trace_model.specs.declared.event_kinds.Event.TheVariants.{Step, Read, Call, Ret, Start, End}
use Rattle.trace_model.specs.declared.activations.Activation.{Activation}
use Rattle.trace_model.specs.declared.slow_profile.Done.{Done}
use Rattle.trace_model.specs.Activations.{open_calls}
use Rattle.trace_model.specs.Sizes.{since, before, last_touch, accessed, known, size, bare, cost}
use Rattle.trace_model.specs.Causes.{Cause, is_by, part}
use Rattle.trace_model.specs.Profile.{done, done_with}
use Rattle.trace_model.specs.Laws.{IsInRange}

-- the event at the position, if there is one
abbrev pub event_at : List Event → ℕ → Option Event
event_at past p = slice_get (reverse past) p

-- the events between two positions, without those at the two
abbrev pub between : List Event → ℕ → ℕ → List Event
between past a q = since (before past q) a

-- in time, the events before a position come first, and those since a position come behind it
pub record PartsAreInTime : Type 0 where
  pub first : (past : List Event) (q : ℕ) → reverse (before past q) ≡ take q (reverse past)
  pub rest : (past : List Event) (a : ℕ) → reverse (since past a) ≡ drop (a + 1) (reverse past)

-- There are exactly n things that are so: they stand in a list, each once.
pub record IsNumberOf {A : Type 0} (IsSo : A → Type 0) (n : ℕ) : Type 0 where
  pub list : List A
  pub many : length list ≡ n
  pub once : AllPairs (λ x y. x ≢ y) list
  pub each : (x : A) → Contains list x ↔ IsSo x

-- thread t runs an instruction at the position, which stands between the two
pub record IsStepBetween (past : List Event) (t a q p : ℕ) : Type 0 where
  pub after : a < p
  pub until : p < q
  pub step : event_at past p ≡ Some (Step t)

-- The cost of thread t's activation from position a to position q is the number of its steps between them.
abbrev pub CostCountsSteps : Type 0
CostCountsSteps = (past : List Event) (t a q : ℕ) → IsNumberOf (IsStepBetween past t a q) (cost (between past a q) t)

-- a word, and the position of an event
pub record WordAt : Type 0 where
  pub at : ℕ
  pub word : ℕ

-- the event at the position is a Read of the word by thread t
abbrev pub IsReadOf : List Event → ℕ → WordAt → Type 0
IsReadOf past t w = (first count : ℕ) × (event_at past w.at ≡ Some (Read t first count)) × IsInRange first count w.word

-- thread t reads the word at the position, which stands between the two, and does not know it by the events since the first
pub record IsUnknownRead (past : List Event) (t a q : ℕ) (w : WordAt) : Type 0 where
  pub after : a < w.at
  pub until : w.at < q
  pub read : IsReadOf past t w
  pub unknown : known (between past a w.at) t w.word ≡ false

-- The size of thread t's activation from position a to position q is the number of the unknown words that it reads between them.
abbrev pub SizeCountsUnknownReads : Type 0
SizeCountsUnknownReads = (past : List Event) (t a q : ℕ) → IsNumberOf (IsUnknownRead past t a q) (size (between past a q) t)

-- it does so, and the read counts by the cause, as the word was touched last in the whole past
pub record IsUnknownReadBy (cause : Cause) (past : List Event) (t a q : ℕ) (w : WordAt) : Type 0 where
  pub unknown : IsUnknownRead past t a q w
  pub by : is_by cause (last_touch (before past w.at) t w.word) ≡ true

-- Each part of that size is the number of the unknown words that it reads by the cause.
abbrev pub PartsCountUnknownReads : Type 0
PartsCountUnknownReads =
    (cause : Cause) (past : List Event) (t a q : ℕ) →
    IsNumberOf (IsUnknownReadBy cause past t a q) (part cause (between past a q) (before past (a + 1)) t)

-- thread t reads the word between the two positions, and does not access it before that since the first
pub record IsReadFirst (past : List Event) (t a q : ℕ) (l : ℕ) : Type 0 where
  pub at : ℕ
  pub after : a < at
  pub until : at < q
  pub read : IsReadOf past t (record { at = at; word = l })
  pub first : accessed (between past a at) t l ≡ false

-- The plain read memory size is the number of the words that are read first.
abbrev pub BareCountsWords : Type 0
BareCountsWords = (past : List Event) (t a q : ℕ) → IsNumberOf (IsReadFirst past t a q) (bare (between past a q) t)

-- where the open activations of thread t began, the innermost first
abbrev pub open_positions : List Event → ℕ → List ℕ
open_positions past t = map (λ a. a.at) (open_calls past t)

-- the event that begins an activation of thread t with this entry and this return address, if it has one
abbrev pub beginning : ℕ → ℕ → Option ℕ → Event
beginning t entry None = Start t entry
beginning t entry (Some back) = Call t entry back

-- the event at the position is a Call by thread t with the target as its return address
abbrev pub IsCallFrom : List Event → ℕ → ℕ → ℕ → Type 0
IsCallFrom past t target p = (entry : ℕ) × (event_at past p ≡ Some (Call t entry target))

-- the event is a Start, Call, Ret or End of thread t
abbrev pub IsBeginOrEnd : Event → ℕ → Type 0
IsBeginOrEnd (Start tid entry) t = tid ≡ t
IsBeginOrEnd (Call tid entry back) t = tid ≡ t
IsBeginOrEnd (Ret tid target) t = tid ≡ t
IsBeginOrEnd (End tid) t = tid ≡ t
IsBeginOrEnd e t = ⊥

-- An open activation is the position of the event that began it, and the positions fall. Each event changes them so: a
-- Start or Call puts its own in front; a Ret takes away those down to and with the first of a Call with its target, and
-- none where there is no such; an End takes all; and other events change nothing.
pub record OpenActivationsArePositions : Type 0 where
  pub begun : (past : List Event) (t : ℕ) → All (λ a. event_at past a.at ≡ Some (beginning t a.entry a.back)) (open_calls past t)
  pub fall : (past : List Event) (t : ℕ) → AllPairs (λ p q. q < p) (open_positions past t)
  pub none : (t : ℕ) → open_positions [] t ≡ []
  pub start : (past : List Event) (t entry : ℕ) → open_positions (Start t entry ∷ past) t ≡ length past ∷ open_positions past t
  pub call : (past : List Event) (t entry back : ℕ) → open_positions (Call t entry back ∷ past) t ≡ length past ∷ open_positions past t
  pub ret :
      (past : List Event) (t target p : ℕ) (inner outer : List ℕ) → open_positions past t ≡ inner ++ p ∷ outer → IsCallFrom past t target p →
      All (λ i. ¬ IsCallFrom past t target i) inner → open_positions (Ret t target ∷ past) t ≡ outer
  pub unmatched :
      (past : List Event) (t target : ℕ) → All (λ p. ¬ IsCallFrom past t target p) (open_positions past t) →
      open_positions (Ret t target ∷ past) t ≡ open_positions past t
  pub end : (past : List Event) (t : ℕ) → open_positions (End t ∷ past) t ≡ []
  pub others : (e : Event) (past : List Event) (t : ℕ) → ¬ IsBeginOrEnd e t → open_positions (e ∷ past) t ≡ open_positions past t

-- an activation of a thread, and the position at which it ends
pub record Ending : Type 0 where
  pub tid : ℕ
  pub call : Activation
  pub at : ℕ

-- the activation is open before the event at the position, and not after it
pub record IsEnding (past : List Event) (x : Ending) : Type 0 where
  pub stood : Contains (open_calls (before past x.at) x.tid) x.call
  pub ended : ¬ Contains (open_calls (before past (x.at + 1)) x.tid) x.call

-- the event at the position is a Ret or End of the thread
abbrev pub IsRetOrEnd : List Event → Ending → Type 0
IsRetOrEnd past x = ((target : ℕ) × (event_at past x.at ≡ Some (Ret x.tid target))) ⊎ (event_at past x.at ≡ Some (End x.tid))

-- an ending comes before another: it stands earlier, or at the same event, and its activation began later
abbrev pub ComesBefore : Ending → Ending → Type 0
ComesBefore x y = (x.at < y.at) ⊎ ((x.at ≡ y.at) × (y.call.at < x.call.at))

-- what the profile has of it, by the events between begin and end and those before
abbrev pub done_at : List Event → Ending → Done
done_at past x = done_with (between past x.call.at x.at) (before past (x.call.at + 1)) x.tid x.call.entry

-- The profile has each ending of an activation, in their order.
pub record IsByEndings (past : List Event) : Type 0 where
  pub endings : List Ending
  pub each : (x : Ending) → Contains endings x ↔ IsEnding past x
  pub order : AllPairs ComesBefore endings
  pub by : All (IsRetOrEnd past) endings
  pub profile : done past ≡ map (done_at past) endings

abbrev pub DoneIsByEndings : Type 0
DoneIsByEndings = (past : List Event) → IsByEndings past
