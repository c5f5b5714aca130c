-- What the definitions by recursion say of a whole trace.
use Rattle.std.specs.Prelude.{◌≡◌, ◌≢◌, ◌↔◌, ℕ, ◌+◌, ◌*◌, ◌<◌, ◌≤◌, Bool, true, List, [], ◌∷◌, ◌++◌, length, drop, replicate, All, Contains, IfSome, sum_by}
use Rattle.std.specs.List.{range_with_len}
use Rattle.trace_model.specs.declared.event_kinds.Event.{Event}
use Rattle.trace_model.specs.declared.event_kinds.Event.TheVariants.{Step, Read, Write, Fill, Start, End}
use Rattle.trace_model.specs.Events.{thread_of}
use Rattle.trace_model.specs.Activations.{open_calls}
use Rattle.trace_model.specs.Sizes.{accessed, known, last_touch, size, bare}
use Rattle.trace_model.specs.Causes.{Plain, OtherThread, Kernel, is_by, part, caused}
use Rattle.trace_model.specs.Profile.{HasParts, done, steps}
use Rattle.trace_model.specs.Cut.{cut}
use Rattle.trace_model.specs.Depth.{count_begun, is_within, pending}

-- the word is one of the `count` words from `first` on
abbrev pub IsInRange : ℕ → ℕ → ℕ → Type 0
IsInRange first count l = (first ≤ l) × (l < first + count)

-- the event is a Read or Write of the word by thread t
abbrev pub IsAccess : Event → ℕ → ℕ → Type 0
IsAccess (Read tid first count) t l = (tid ≡ t) × IsInRange first count l
IsAccess (Write tid first count) t l = (tid ≡ t) × IsInRange first count l
IsAccess _ t l = ⊥

-- the event is a Write of the word by another thread, or a Fill of it
abbrev pub IsForeignWrite : Event → ℕ → ℕ → Type 0
IsForeignWrite (Write tid first count) t l = (tid ≢ t) × IsInRange first count l
IsForeignWrite (Fill first count) t l = IsInRange first count l
IsForeignWrite _ t l = ⊥

-- the event is a Write of the word by another thread
abbrev pub IsWriteByOther : Event → ℕ → ℕ → Type 0
IsWriteByOther (Write tid first count) t l = (tid ≢ t) × IsInRange first count l
IsWriteByOther _ t l = ⊥

-- the event is a Fill of the word
abbrev pub IsFill : Event → ℕ → ℕ → Type 0
IsFill (Fill first count) t l = IsInRange first count l
IsFill _ t l = ⊥

-- going back over the events, the first that is an access by thread t or a foreign write exists, and is such a one
pub record IsLatest (IsSuch : Event → ℕ → ℕ → Type 0) (events : List Event) (t l : ℕ) : Type 0 where
  pub later : List Event
  pub latest : Event
  pub earlier : List Event
  pub parts : events ≡ later ++ latest ∷ earlier
  pub such : IsSuch latest t l
  pub passed : All (λ e. (¬ IsAccess e t l) × (¬ IsForeignWrite e t l)) later

abbrev pub KnownIsByTheLatestTouch : Type 0
KnownIsByTheLatestTouch = (inside : List Event) (t l : ℕ) → (known inside t l ≡ true) ↔ IsLatest IsAccess inside t l

-- A read counts as another thread's or the kernel's where that first event is a Write by another thread or a Fill, and as
-- plain in all other cases.
pub record CausesAreByTheLatestTouch : Type 0 where
  pub thread : (past : List Event) (t l : ℕ) → (is_by OtherThread (last_touch past t l) ≡ true) ↔ IsLatest IsWriteByOther past t l
  pub kernel : (past : List Event) (t l : ℕ) → (is_by Kernel (last_touch past t l) ≡ true) ↔ IsLatest IsFill past t l
  pub plain :
      (past : List Event) (t l : ℕ) →
      (is_by Plain (last_touch past t l) ≡ true) ↔ ((¬ IsLatest IsWriteByOther past t l) × (¬ IsLatest IsFill past t l))

-- a word was accessed where some event is an access of it
abbrev pub AccessedIsByAnAccess : Type 0
AccessedIsByAnAccess =
    (inside : List Event) (t l : ℕ) → (accessed inside t l ≡ true) ↔ ((e : Event) × Contains inside e × IsAccess e t l)

-- The three parts add up to the size, and the plain read memory size lies between the plain part and the size.
pub record SizesAreParts : Type 0 where
  pub sum :
      (inside past : List Event) (t : ℕ) →
      part Plain inside past t + part OtherThread inside past t + part Kernel inside past t ≡ size inside t
  pub low : (inside past : List Event) (t : ℕ) → part Plain inside past t ≤ bare inside t
  pub high : (inside : List Event) (t : ℕ) → bare inside t ≤ size inside t
  pub done : (past : List Event) → All HasParts (done past)

-- The parts of the other threads and of the kernel are what the thread's counts over the whole past rise by: what others
-- wrote last is known in no activation.
pub record ForeignPartsAreCounts : Type 0 where
  pub thread :
      (inside past : List Event) (t : ℕ) →
      caused OtherThread past t + part OtherThread inside past t ≡ caused OtherThread (inside ++ past) t
  pub kernel :
      (inside past : List Event) (t : ℕ) → caused Kernel past t + part Kernel inside past t ≡ caused Kernel (inside ++ past) t

-- each event of a thread is of one below n
abbrev pub AreThreadsBelow : ℕ → List Event → Type 0
AreThreadsBelow n past = All (λ e. IfSome (thread_of e) (λ t. t < n)) past

-- the open activations of all threads are those of each thread together
abbrev pub PendingIsOfAllThreads : Type 0
PendingIsOfAllThreads =
    (past : List Event) (n : ℕ) → AreThreadsBelow n past → pending past ≡ sum_by (λ t. length (open_calls past t)) (range_with_len 0 n)

-- how many activations began
abbrev pub begun_count : List Event → ℕ
begun_count [] = 0
begun_count (e ∷ past) = begun_count past + count_begun e

-- each activation that began is done or pending, and none is both
abbrev pub EachBegunIsDoneOrPending : Type 0
EachBegunIsDoneOrPending = (past : List Event) → length (done past) + pending past ≡ begun_count past

-- at each prefix of the trace, in time, three stamps for each open activation and three more are at most the greatest stamp
abbrev pub EachPrefixIsWithin : List Event → ℕ → Type 0
EachPrefixIsWithin past most = (k : ℕ) → 3 * (pending (drop k past) + 1) ≤ most

-- The test asks this of each prefix; so what passes it does so without its newest event.
abbrev pub WithinIsOfEachPrefix : Type 0
WithinIsOfEachPrefix = (past : List Event) (most : ℕ) → (is_within most past ≡ true) ↔ EachPrefixIsWithin past most

-- The part is a prefix of the trace, in time, it fits, and it is the longest such. With the newest event first, a prefix in
-- time is what stays when the newest events are dropped.
pub record IsLongestThatFits (fits : List Event → Bool) (past part : List Event) : Type 0 where
  pub prefix : (k : ℕ) × (part ≡ drop k past)
  pub fitting : fits part ≡ true
  pub longest : (k : ℕ) → fits (drop k past) ≡ true → length (drop k past) ≤ length part

abbrev pub CutIsTheLongestPrefix : Type 0
CutIsTheLongestPrefix = (fits : List Event → Bool) (past : List Event) → fits [] ≡ true → IsLongestThatFits fits past (cut fits past)

-- the trace of a thread that runs `count` instructions without a call or an access
abbrev pub plain_trace : ℕ → ℕ → ℕ → List Event
plain_trace t entry count = replicate count (Step t) ++ Start t entry ∷ []

-- it has one open activation, which becomes the one done, with size 0, where the thread ends
pub record IsOneActivation (t entry count : ℕ) : Type 0 where
  pub one_open : pending (plain_trace t entry count) ≡ 1
  pub none_done : done (plain_trace t entry count) ≡ []
  pub run : steps (plain_trace t entry count) ≡ count
  pub none_open : pending (End t ∷ plain_trace t entry count) ≡ 0
  pub one_done :
      done (End t ∷ plain_trace t entry count)
      ≡ record { tid = t; entry = entry; size = 0; cost = count; plain = 0; thread = 0; kernel = 0; bare = 0 } ∷ []
  pub all_run : steps (End t ∷ plain_trace t entry count) ≡ count

abbrev pub ExitIsOneActivation : Type 0
ExitIsOneActivation = (t entry count : ℕ) → IsOneActivation t entry count
