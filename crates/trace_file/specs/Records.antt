-- The records of a trace's text: a form a row.
use Rattle.std.specs.Prelude.{◌≡◌, ℕ, ◌-◌, ◌/◌, ◌%◌, ◌^◌, ◌≤◌, true, List, [], ◌∷◌, ◌++◌, length}
use Rattle.std.specs.List.{flat_map}
use Rattle.byteorder.specs.Endian.{little_bytes}
use Rattle.guest_words.specs.Names.{is_name}
use Rattle.guest_words.specs.declared.limits.TheConstants.{LAST_TID, NAME_BYTES}
use Rattle.guest_words.specs.Endings.{kind_number}
use Rattle.guest_words.specs.declared.endings.Finish.TheVariants as ends
use Rattle.trace_model.specs.declared.event_kinds.Event.TheVariants as events
use Rattle.trace_file.specs.declared.records.Form.{Form}
use Rattle.trace_file.specs.declared.records.Form.TheVariants.{Step, Read, Write, Fill, Call, Ret, Start, End, Named, Exit, Fault, Budget, Deadlock, Deep, Schedule}
use Rattle.trace_file.specs.declared.records.Range.{Range}
use Rattle.trace_file.specs.declared.records.Record.{Record}
use Rattle.trace_file.specs.declared.records.Record.TheVariants.{OfEvent, OfName, OfFinish}

-- the bytes that say which form a record has
abbrev pub head : Form → List ℕ
head Step = 1 ∷ []
head Read = 2 ∷ []
head Write = 3 ∷ []
head Fill = 4 ∷ []
head Call = 5 ∷ []
head Ret = 6 ∷ []
head Start = 7 ∷ []
head End = 8 ∷ []
head Named = 9 ∷ []
head Exit = 10 ∷ 0 ∷ []
head Fault = 10 ∷ 1 ∷ []
head Budget = 10 ∷ 2 ∷ []
head Deadlock = 10 ∷ 3 ∷ []
head Deep = 10 ∷ 4 ∷ []
head Schedule = 10 ∷ 5 ∷ []

-- a thread, a word of memory, and any number of 32 bits
abbrev pub thread : Range
thread = record { least = 1; most = LAST_TID }

abbrev pub word : Range
word = record { least = 0; most = 2 ^ 30 - 1 }

abbrev pub free : Range
free = record { least = 0; most = 2 ^ 32 - 1 }

-- the numbers that stand behind the head of a form
abbrev pub ranges : Form → List Range
ranges Step = thread ∷ []
ranges Read = thread ∷ word ∷ free ∷ []
ranges Write = thread ∷ word ∷ free ∷ []
ranges Fill = word ∷ free ∷ []
ranges Call = thread ∷ free ∷ free ∷ []
ranges Ret = thread ∷ free ∷ []
ranges Start = thread ∷ free ∷ []
ranges End = thread ∷ []
ranges Named = free ∷ record { least = 1; most = NAME_BYTES } ∷ []
ranges Exit = record { least = 0; most = 255 } ∷ []
ranges Fault = record { least = 1; most = 7 } ∷ thread ∷ free ∷ []
ranges Budget = []
ranges Deadlock = []
ranges Deep = []
ranges Schedule = free ∷ free ∷ []

-- the form of a record
abbrev pub form : Record → Form
form (OfEvent (events.Step tid)) = Step
form (OfEvent (events.Read tid first count)) = Read
form (OfEvent (events.Write tid first count)) = Write
form (OfEvent (events.Fill first count)) = Fill
form (OfEvent (events.Call tid entry back)) = Call
form (OfEvent (events.Ret tid target)) = Ret
form (OfEvent (events.Start tid entry)) = Start
form (OfEvent (events.End tid)) = End
form (OfName entry name) = Named
form (OfFinish (ends.Exit status)) = Exit
form (OfFinish (ends.Fault kind tid at)) = Fault
form (OfFinish ends.Budget) = Budget
form (OfFinish ends.Deadlock) = Deadlock
form (OfFinish ends.Deep) = Deep
form (OfFinish (ends.Schedule line)) = Schedule

-- its numbers; of a name they are the entry and how many bytes it has, and of a line of a schedule its low and its high half
abbrev pub numbers : Record → List ℕ
numbers (OfEvent (events.Step tid)) = tid ∷ []
numbers (OfEvent (events.Read tid first count)) = tid ∷ first ∷ count ∷ []
numbers (OfEvent (events.Write tid first count)) = tid ∷ first ∷ count ∷ []
numbers (OfEvent (events.Fill first count)) = first ∷ count ∷ []
numbers (OfEvent (events.Call tid entry back)) = tid ∷ entry ∷ back ∷ []
numbers (OfEvent (events.Ret tid target)) = tid ∷ target ∷ []
numbers (OfEvent (events.Start tid entry)) = tid ∷ entry ∷ []
numbers (OfEvent (events.End tid)) = tid ∷ []
numbers (OfName entry name) = entry ∷ length name ∷ []
numbers (OfFinish (ends.Exit status)) = status ∷ []
numbers (OfFinish (ends.Fault kind tid at)) = kind_number kind ∷ tid ∷ at ∷ []
numbers (OfFinish ends.Budget) = []
numbers (OfFinish ends.Deadlock) = []
numbers (OfFinish ends.Deep) = []
numbers (OfFinish (ends.Schedule line)) = line % 2 ^ 32 ∷ line / 2 ^ 32 ∷ []

-- the bytes of the name, where it is one of a name
abbrev pub name_bytes : Record → List ℕ
name_bytes (OfName entry name) = name
name_bytes r = []

-- a number in 32 bits, the lowest byte first
unfoldable pub number_bytes : ℕ → List ℕ
number_bytes n = little_bytes 4 n

-- a head, numbers and bytes, one behind the other
abbrev pub joined : List ℕ → List ℕ → List ℕ → List ℕ
joined head numbers bytes = head ++ (flat_map number_bytes numbers ++ bytes)

-- the bytes of a record
abbrev pub record_bytes : Record → List ℕ
record_bytes r = joined (head (form r)) (numbers r) (name_bytes r)

-- the number is in the range
abbrev pub IsIn : Range → ℕ → Type 0
IsIn r n = (r.least ≤ n) × (n ≤ r.most)

-- as many numbers as ranges, and each in its own
abbrev pub AreInRanges : List ℕ → List Range → Type 0
AreInRanges [] [] = Unit {0}
AreInRanges (n ∷ ns) (r ∷ rs) = IsIn r n × AreInRanges ns rs
AreInRanges ns rs = ⊥

-- a name is one of a routine, and a line is counted from 1
abbrev pub FitsContent : Record → Type 0
FitsContent (OfName entry name) = is_name name ≡ true
FitsContent (OfFinish (ends.Schedule line)) = 1 ≤ line
FitsContent r = Unit {0}

-- what a record can say
pub record Fits (r : Record) : Type 0 where
  pub ranges : AreInRanges (numbers r) (ranges (form r))
  pub content : FitsContent r
