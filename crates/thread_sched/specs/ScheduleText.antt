-- The text of a schedule: a line for each entry.
use Rattle.std.specs.Prelude.{◌≡◌, ◌≢◌, ◌⊎◌, ℕ, ◌+◌, ◌≤◌, true, List, [], ◌∷◌, ◌++◌, codes, length}
use Rattle.std.specs.Fmt.{decimal}
use Rattle.std.specs.List.{AllByRecursion, flat_map}
use Rattle.thread_sched.specs.declared.entry.Entry.{Entry}
use Rattle.thread_sched.specs.declared.schedule.ScheduleError.{ScheduleError}
use Rattle.thread_sched.specs.declared.schedule.ScheduleError.TheVariants.{BadLine, Memory}
use Rattle.guest_words.specs.declared.limits.TheConstants.{LAST_TID, RUN_STEPS}
use Rattle.guest_words.specs.Separators.{lacks}

-- a thread's number, and 1 to `RUN_STEPS` instructions
pub record IsEntry (e : Entry) : Type 0 where
  pub first : 1 ≤ e.tid
  pub last : e.tid ≤ LAST_TID
  pub some : 1 ≤ e.most
  pub most : e.most ≤ RUN_STEPS

-- an entry, without the byte that ends its line
abbrev pub entry_text : Entry → List ℕ
entry_text e = decimal e.tid ++ codes " " ++ decimal e.most

-- a line for each entry, each with the byte that ends it
abbrev pub schedule_text : List Entry → List ℕ
schedule_text entries = flat_map (λ e. entry_text e ++ 10 ∷ []) entries

-- the text is that of the entries, where the last line may lack the byte that ends it
abbrev pub IsText : List ℕ → List Entry → Type 0
IsText text entries = (text ≡ schedule_text entries) ⊎ (text ++ 10 ∷ [] ≡ schedule_text entries)

-- the bytes are a line before what follows them: nothing, if they are some, or the byte that ends them
abbrev pub IsLineBefore : List ℕ → List ℕ → Type 0
IsLineBefore bytes rest = (lacks 10 bytes ≡ true) × (((bytes ≢ []) × (rest ≡ [])) ⊎ ((more : List ℕ) × (rest ≡ 10 ∷ more)))

-- the bytes are not the text of an entry
abbrev pub IsNoEntry : List ℕ → Type 0
IsNoEntry bytes = (e : Entry) → IsEntry e → bytes ≢ entry_text e

-- The line of this number is not an entry's, and each line before it is.
pub record IsBadLine (text : List ℕ) (number : ℕ) : Type 0 where
  pub entries : List Entry
  pub bytes : List ℕ
  pub rest : List ℕ
  pub before : AllByRecursion IsEntry entries
  pub counted : number ≡ length entries + 1
  pub whole : text ≡ schedule_text entries ++ (bytes ++ rest)
  pub line : IsLineBefore bytes rest
  pub bad : IsNoEntry bytes

-- A line is an entry's, as is each line before it. Memory is wanted only to keep such a line.
pub record HasEntry (text : List ℕ) : Type 0 where
  pub entries : List Entry
  pub entry : Entry
  pub rest : List ℕ
  pub before : AllByRecursion IsEntry entries
  pub fits : IsEntry entry
  pub whole : text ≡ schedule_text entries ++ (entry_text entry ++ rest)
  pub line : IsLineBefore (entry_text entry) rest

-- why a text is no schedule, or is not read
abbrev pub IsScheduleRefused : List ℕ → ScheduleError → Type 0
IsScheduleRefused text (BadLine number) = IsBadLine text number
IsScheduleRefused text Memory = HasEntry text
