-- What an activation has read and run, by the events inside it, the newest first.
use Rattle.std.specs.Prelude.{ℕ, ◌+◌, ◌-◌, Bool, true, false, not, ◌||◌, List, [], ◌∷◌, length, take, drop, count_by}
use Rattle.trace_model.specs.declared.event_kinds.Event.{Event}
use Rattle.trace_model.specs.declared.event_kinds.Touch.{Touch}
use Rattle.trace_model.specs.declared.event_kinds.Touch.TheVariants.{Untouched, ByItself, ByOther, ByKernel}
use Rattle.trace_model.specs.Events.{touch, words_read, steps_run}

-- the events after the one at the position: what lies inside an activation that began there
abbrev pub since : List Event → ℕ → List Event
since past at = take (length past - (at + 1)) past

-- the events before the position
abbrev pub before : List Event → ℕ → List Event
before past q = drop (length past - q) past

-- the later of two touches
abbrev pub newer : Touch → Touch → Touch
newer Untouched before = before
newer ByItself before = ByItself
newer ByOther before = ByOther
newer ByKernel before = ByKernel

-- how the word was touched last, as thread t sees it
abbrev pub last_touch : List Event → ℕ → ℕ → Touch
last_touch [] t l = Untouched
last_touch (e ∷ past) t l = newer (touch e t l) (last_touch past t l)

abbrev pub is_own : Touch → Bool
is_own ByItself = true
is_own _ = false

-- thread t knows what the word holds: the last touch inside the activation is its own
abbrev pub known : List Event → ℕ → ℕ → Bool
known inside t l = is_own (last_touch inside t l)

-- how many pairs of a read by thread t and a word of it pass a test, which is given the events before the read and the word
abbrev pub count_pairs : (List Event → ℕ → Bool) → List Event → ℕ → ℕ
count_pairs test [] t = 0
count_pairs test (e ∷ inside) t = count_pairs test inside t + count_by (test inside) (words_read e t)

-- the size: each pair of a read and a word that was not known then
abbrev pub size : List Event → ℕ → ℕ
size inside t = count_pairs (λ earlier l. not (known earlier t l)) inside t

-- thread t read or wrote the word
abbrev pub accessed : List Event → ℕ → ℕ → Bool
accessed [] t l = false
accessed (e ∷ inside) t l = is_own (touch e t l) || accessed inside t l

-- the plain read memory size: each pair of a read and a word that the thread had not accessed then
abbrev pub bare : List Event → ℕ → ℕ
bare inside t = count_pairs (λ earlier l. not (accessed earlier t l)) inside t

-- the cost: the instructions that thread t ran
abbrev pub cost : List Event → ℕ → ℕ
cost [] t = 0
cost (e ∷ inside) t = cost inside t + steps_run e t
