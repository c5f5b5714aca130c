-- What a system call keeps, whatever it does.
use Rattle.std.specs.Prelude.{◌≡◌, ◌≢◌, ℕ, ◌<◌, ◌≤◌, ◌+◌, ◌*◌, ◌%◌, ◌^◌, Bool, true, false, not, ◌&&◌, ◌||◌, ◌==◌, List, [], ◌∷◌, ◌++◌, length, map, filter, is_some, is_none, None, if◌then◌else◌}
use Rattle.guest_words.specs.declared.limits.TheConstants.{SYSCALL_EVENTS}
use Rattle.trace_model.specs.declared.event_kinds.Event.{Event}
use Rattle.trace_model.specs.declared.event_kinds.Event.TheVariants.{Read, Fill}
use Rattle.trace_model.specs.WellFormed.{AreWords, weight}
use Rattle.guest_memory.specs.Reserved.{Reserved}
use Rattle.guest_kernel.specs.declared.answer.Answer.{Answer}
use Rattle.guest_kernel.specs.declared.answer.Answer.TheVariants.{Back, ThreadEnd, ProcessEnd, Born}
use Rattle.guest_kernel.specs.Threads.{is_full}
use Rattle.guest_kernel.specs.Kernel.{KernelState, can_run, lives}
use Rattle.guest_calls.specs.Files.{read_tests, write_tests}
use Rattle.guest_calls.specs.Pages.{IsBreakFree}
use Rattle.guest_calls.specs.Results.{Syscall, SyscallResult, first_answer, number}
use Rattle.guest_calls.specs.Vectors.{part_limit, readv_tests, writev_tests}

-- ---- copies
-- the event is a copy of words of memory, from it for the thread or to it
abbrev pub IsCopy : ℕ → Event → Type 0
IsCopy tid (Read reader first count) = (reader ≡ tid) × AreWords first count
IsCopy tid (Fill first count) = AreWords first count
IsCopy tid _ = ⊥

abbrev pub AreCopies : ℕ → List Event → Type 0
AreCopies tid [] = Unit {0}
AreCopies tid (e ∷ events) = IsCopy tid e × AreCopies tid events

-- how many words of memory an event copies
abbrev pub count_copied : Event → ℕ
count_copied (Read reader first count) = count
count_copied (Fill first count) = count
count_copied _ = 0

abbrev pub words_copied : List Event → ℕ
words_copied [] = 0
words_copied (e ∷ events) = words_copied events + count_copied e

-- none of the tests before an effect holds
abbrev pub passes : List (Bool × ℕ) → Bool
passes tests = is_none (first_answer tests)

-- the call with this number is read(2) 63, write(2) 64, readv(2) 65 or writev(2) 66, and none of its tests refuses it
unfoldable pub carries : ℕ → Syscall → Bool
carries call c =
    (call == 63 && passes (read_tests c))
    || ((call == 64 && passes (write_tests c))
    || ((call == 65 && passes (readv_tests c))
    || (call == 66 && passes (writev_tests c))))

-- Such a call carries the bytes whose number it answers. One that is refused carries none: its answer, 2 ^ 32 less the number of
-- the error, counts no bytes. No other call carries any.
abbrev pub bytes_carried : Syscall → Answer → ℕ
bytes_carried c (Back value) = if carries (number c) c then value else 0
bytes_carried c answer = 0

-- ---- threads
-- a new thread is one that there was room for, and has the next number, which is then the last one given; without one that stays
abbrev pub GivesNumber : Answer → KernelState → KernelState → Type 0
GivesNumber (Born child registers) old new = (child ≡ old.last_tid + 1) × (new.last_tid ≡ child) × (is_full old ≡ false)
GivesNumber _ old new = new.last_tid ≡ old.last_tid

-- the numbers of the live threads
abbrev pub tids : KernelState → List ℕ
tids k = map (λ t. t.tid) k.threads

-- the threads after an answer
abbrev pub tids_after : Answer → ℕ → List ℕ → List ℕ
tids_after ThreadEnd tid ts = filter (λ n. not (n == tid)) ts
tids_after (ProcessEnd status) tid ts = []
tids_after (Born child registers) tid ts = ts ++ child ∷ []
tids_after answer tid ts = ts

-- a thread that has a reservation lives
abbrev pub HoldersLive : Reserved → KernelState → Type 0
HoldersLive held kernel = (tid : ℕ) → is_some (held tid) ≡ true → lives kernel tid ≡ true

-- a new thread begins behind the instruction at this pc
abbrev pub BeginsBehind : ℕ → Answer → Type 0
BeginsBehind pc (Born child registers) = registers.pc ≡ (pc + 4) % 2 ^ 32
BeginsBehind pc answer = Unit {0}

-- all threads end with the number of a byte
abbrev pub EndsWithByte : Answer → Type 0
EndsWithByte (ProcessEnd status) = status < 2 ^ 8
EndsWithByte answer = Unit {0}

-- by this answer the thread's turn goes on
abbrev pub goes_on : Answer → Bool
goes_on (Back value) = true
goes_on (Born child registers) = true
goes_on answer = false

-- ---- a call
pub record IsLawful (c : Syscall) (r : SyscallResult) : Type 0 where
  -- the copies are few events that read few words: at most one for the table of a call in parts, and one for each of at most
  -- 1024 parts
  pub few : length r.guest.events ≤ SYSCALL_EVENTS
  pub light : weight r.guest.events ≤ 65536
  -- each event is a copy for the calling thread
  pub copies : AreCopies c.tid r.guest.events
  -- the copies touch at most the words that the bytes carried and the longest table of parts, of eight bytes each, fill, and
  -- two more for each event; what else a call copies, such as a path or a time, has fewer bytes than that table
  pub words : 4 * words_copied r.guest.events ≤
      bytes_carried c r.answer + 8 * part_limit + 8 * length r.guest.events
  -- where no page from the break up to the limit is mapped, none is afterwards
  pub break_free :
      IsBreakFree c.memory c.kernel.program_break → IsBreakFree r.guest.memory r.kernel.program_break
  pub numbers : GivesNumber r.answer c.kernel r.kernel
  pub threads : tids r.kernel ≡ tids_after r.answer c.tid (tids c.kernel)
  pub holders : HoldersLive c.held c.kernel → HoldersLive r.guest.held r.kernel
  pub begins : BeginsBehind c.registers.pc r.answer
  pub byte : EndsWithByte r.answer
  -- a thread that could run can run where it goes on
  pub able : can_run c.kernel c.tid ≡ true → goes_on r.answer ≡ true → can_run r.kernel c.tid ≡ true
  -- only write and writev put bytes out
  pub silent : number c ≢ 64 → number c ≢ 66 → r.out ≡ None
