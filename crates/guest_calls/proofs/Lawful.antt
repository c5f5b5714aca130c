-- What makes a call lawful: lemmas for all calls, and for the kinds that most of them are.
use Rattle.std.proofs.Common.{◌≡◌, ◌≢◌, ℕ, zero, suc, ◌≤◌, ◌+◌, ◌*◌, ◌/◌, ◌^◌, Bool, true, false, cond, List, [], ◌∷◌, ◌++◌, length, length-append, map, Option, Some, None, arith, refl, ap, sym, subst, ◌∙◌}
use Rattle.std.specs.Prelude.{not, ◌==◌, ◌||◌, is_none, is_some}
use Rattle.std.specs.List.{list_any}
use Rattle.std.proofs.lemmas.Bool.{not-false}
use Rattle.guest_words.specs.declared.limits.TheConstants.{SYSCALL_EVENTS}
use Rattle.guest_words.specs.Words.{word_count}
use Rattle.guest_words.specs.declared.rights.Rights.{Rights}
use Rattle.guest_memory.specs.Memory.{Memory}
use Rattle.guest_memory.proofs.CallerLemmas.{some_of_rest}
use Rattle.trace_model.specs.declared.event_kinds.Event.{Event}
use Rattle.trace_model.specs.WellFormed.{AreWords, weight}
use Rattle.trace_model.proofs.Bounds.{weight-append}
use Rattle.guest_kernel.specs.declared.answer.Answer.{Answer}
use Rattle.guest_kernel.specs.declared.answer.Answer.TheVariants.{Back, Yield, Block}
use Rattle.guest_kernel.specs.declared.thread.Thread.{Thread}
use Rattle.guest_kernel.specs.Kernel.{KernelState, can_run, lives}
use Rattle.guest_calls.specs.Files.{read_tests, write_tests}
use Rattle.guest_calls.specs.Lawful.{AreCopies, BeginsBehind, EndsWithByte, GivesNumber, IsLawful, bytes_carried, carries, goes_on, passes, tids, tids_after, words_copied}
use Rattle.guest_calls.specs.Pages.{IsBreakFree, remaps}
use Rattle.guest_kernel.specs.Copies.{fill_event, read_event}
use Rattle.guest_calls.specs.Results.{Syscall, SyscallResult, Guest, ◌▷◌, answered_or, changes, either, filled, fills, first_answer, number, returns, unless, writable}
use Rattle.guest_calls.specs.Vectors.{readv_tests, writev_tests}
use Rattle.guest_calls.proofs.Passed.{failed}
use Rattle.guest_kernel.proofs.Reach.{writable_end}
use Rattle.guest_kernel.proofs.Room.{fill_few, read_few}

-- ---- events
-- few events of little weight, each a copy for the thread, of the words of these bytes and of few more
pub record AreFair (tid bytes : ℕ) (events : List Event) : Type 0 where
  pub few : length events ≤ SYSCALL_EVENTS
  pub light : weight events ≤ 65536
  pub copies : AreCopies tid events
  pub words : 4 * words_copied events ≤ bytes + 8192 + 8 * length events

-- what is fair for no bytes is fair for any number of them
pub any_fair : (tid bytes : ℕ) (events : List Event) → AreFair tid 0 events → AreFair tid bytes events
any_fair tid bytes events fair = record {
  few = fair.few;
  light = fair.light;
  copies = fair.copies;
  words = let least = fair.words in omega (arith, least);
}

words_of : (at n : ℕ) → 1 ≤ n → at + n ≤ 2 ^ 32 → AreWords (at / 4) (word_count at n)
words_of at n some fits = (omega (arith, some), omega (arith, some, fits))

pub read_copies : (tid at n : ℕ) → (1 ≤ n → at + n ≤ 2 ^ 32) → AreCopies tid (read_event tid at n)
read_copies tid at zero fits = tt
read_copies tid at (suc n) fits = ((refl, words_of at (suc n) (omega arith) (fits (omega arith))), tt)

pub fill_copies : (tid at n : ℕ) → (1 ≤ n → at + n ≤ 2 ^ 32) → AreCopies tid (fill_event at n)
fill_copies tid at zero fits = tt
fill_copies tid at (suc n) fits = (words_of at (suc n) (omega arith) (fits (omega arith)), tt)

pub copies_append : (tid : ℕ) (xs ys : List Event) → AreCopies tid xs → AreCopies tid ys → AreCopies tid (xs ++ ys)
copies_append tid [] ys front back = back
copies_append tid (e ∷ xs) ys front back = (front.0, copies_append tid xs ys front.1 back)

pub words-append : (xs ys : List Event) → words_copied (xs ++ ys) ≡ words_copied xs + words_copied ys
words-append [] ys = omega arith
words-append (e ∷ xs) ys = omega (arith, words-append xs ys)

-- a copy touches at most two words more than its bytes fill
pub read_words : (tid at n : ℕ) → 4 * words_copied (read_event tid at n) ≤ n + 8 * length (read_event tid at n)
read_words tid at zero = omega arith
read_words tid at (suc n) = omega arith

pub fill_words : (at n : ℕ) → 4 * words_copied (fill_event at n) ≤ n + 8 * length (fill_event at n)
fill_words at zero = omega arith
fill_words at (suc n) = omega arith

-- a read weighs one for itself and at most two words more than its bytes fill
pub read_weight : (tid at n : ℕ) → weight (read_event tid at n) ≤ n / 4 + 3
read_weight tid at zero = omega arith
read_weight tid at (suc n) = omega arith

pub fill_weight : (at n : ℕ) → weight (fill_event at n) ≤ 1
fill_weight at zero = omega arith
fill_weight at (suc n) = omega arith

pub none_fair : (tid : ℕ) → AreFair tid 0 []
none_fair tid = record { few = omega arith; light = omega arith; copies = tt; words = omega arith }

pub read_fair : (tid bytes at n : ℕ) → n ≤ 65536 → n ≤ bytes + 8192 → (1 ≤ n → at + n ≤ 2 ^ 32) →
    AreFair tid bytes (read_event tid at n)
read_fair tid bytes at n few within fits = record {
  few = omega (arith, read_few tid at n);
  light = omega (arith, read_weight tid at n, few);
  copies = read_copies tid at n fits;
  words = omega (arith, read_words tid at n, within);
}

pub fill_fair : (tid bytes at n : ℕ) → n ≤ bytes + 8192 → (1 ≤ n → at + n ≤ 2 ^ 32) → AreFair tid bytes (fill_event at n)
fill_fair tid bytes at n within fits = record {
  few = omega (arith, fill_few at n);
  light = omega (arith, fill_weight at n);
  copies = fill_copies tid at n fits;
  words = omega (arith, fill_words at n, within);
}

-- two copies, each of few bytes
pub two_fair : (tid : ℕ) (xs ys : List Event) → length xs ≤ 1 → length ys ≤ 1 → weight xs ≤ 99 → weight ys ≤ 99 →
    words_copied xs ≤ 99 → words_copied ys ≤ 99 → AreCopies tid xs → AreCopies tid ys → AreFair tid 0 (xs ++ ys)
two_fair tid xs ys one two light also short shorter copies more = record {
  few = omega (arith, length-append xs ys, one, two);
  light = omega (arith, weight-append xs ys, light, also);
  copies = copies_append tid xs ys copies more;
  words = omega (arith, words-append xs ys, short, shorter);
}

-- ---- tests
-- all of them failed
abbrev pub AreFailed : List (Bool × ℕ) → Type 0
AreFailed [] = Unit {0}
AreFailed (t ∷ tests) = (t.0 ≡ false) × AreFailed tests

all_failed : (tests : List (Bool × ℕ)) → first_answer tests ≡ None → AreFailed tests
all_failed [] passed = tt
all_failed (t ∷ tests) passed = let one = failed t.0 t.1 (first_answer tests) passed in (one.0, all_failed tests one.1)

none_answers : (tests : List (Bool × ℕ)) → AreFailed tests → first_answer tests ≡ None
none_answers [] all = refl
none_answers (t ∷ tests) all = ap (λ (b : Bool). cond b (Some t.1) (first_answer tests)) all.0 ∙ none_answers tests all.1

all_pass : (tests : List (Bool × ℕ)) → AreFailed tests → passes tests ≡ true
all_pass tests all = ap (λ (o : Option ℕ). is_none o) (none_answers tests all)

-- ---- bytes that are carried
-- a call of these that no test refuses carries its bytes
pub read_carries : (c : Syscall) → number c ≡ 63 → AreFailed (read_tests c) → carries (number c) c ≡ true
unfolding carries
read_carries c is all = ap (λ (k : ℕ). carries k c) is ∙ ap (λ (b : Bool). b || false) (all_pass (read_tests c) all)

pub write_carries : (c : Syscall) → number c ≡ 64 → AreFailed (write_tests c) → carries (number c) c ≡ true
unfolding carries
write_carries c is all = ap (λ (k : ℕ). carries k c) is ∙ ap (λ (b : Bool). b || false) (all_pass (write_tests c) all)

pub readv_carries : (c : Syscall) → number c ≡ 65 → AreFailed (readv_tests c) → carries (number c) c ≡ true
unfolding carries
readv_carries c is all = ap (λ (k : ℕ). carries k c) is ∙ ap (λ (b : Bool). b || false) (all_pass (readv_tests c) all)

pub writev_carries : (c : Syscall) → number c ≡ 66 → AreFailed (writev_tests c) → carries (number c) c ≡ true
unfolding carries
writev_carries c is all = ap (λ (k : ℕ). carries k c) is ∙ all_pass (writev_tests c) all

-- what is answered is carried
answered : (c : Syscall) (n : ℕ) → carries (number c) c ≡ true → bytes_carried c (Back n) ≡ n
answered c n does = ap (λ (b : Bool). cond b n 0) does

at_most : (n bytes : ℕ) → bytes ≡ n → n ≤ bytes + 8192
at_most n bytes is = omega (arith, is)

pub carried_few : (c : Syscall) (n : ℕ) → carries (number c) c ≡ true → n ≤ bytes_carried c (Back n) + 8192
carried_few c n does = at_most n (bytes_carried c (Back n)) (answered c n does)

pub carried_fair : (c : Syscall) (n : ℕ) (events : List Event) → carries (number c) c ≡ true →
    AreFair c.tid n events → AreFair c.tid (bytes_carried c (Back n)) events
carried_fair c n events does fair =
    subst (λ (bytes : ℕ). AreFair c.tid bytes events) (sym (answered c n does)) fair

-- so few bytes are within the longest table
pub few_bytes : (n bytes : ℕ) → n ≤ 8192 → n ≤ bytes + 8192
few_bytes n bytes few = omega (arith, few)

-- ---- the thread goes on, or waits
abbrev pub Stays : Answer → Type 0
Stays (Back value) = Unit {0}
Stays Yield = Unit {0}
Stays Block = Unit {0}
Stays answer = ⊥

stays_tids : (answer : Answer) (tid : ℕ) (ts : List ℕ) → Stays answer → tids_after answer tid ts ≡ ts
stays_tids (Back value) tid ts stays = refl
stays_tids Yield tid ts stays = refl
stays_tids Block tid ts stays = refl
stays_tids _ tid ts stays = absurd stays

stays_begins : (pc : ℕ) (answer : Answer) → Stays answer → BeginsBehind pc answer × EndsWithByte answer
stays_begins pc (Back value) stays = (tt, tt)
stays_begins pc Yield stays = (tt, tt)
stays_begins pc Block stays = (tt, tt)
stays_begins pc _ stays = absurd stays

stays_number : (answer : Answer) (old new : KernelState) → Stays answer →
    new.last_tid ≡ old.last_tid → GivesNumber answer old new
stays_number (Back value) old new stays last = last
stays_number Yield old new stays last = last
stays_number Block old new stays last = last
stays_number _ old new stays last = absurd stays

pub any_thread : (threads : List Thread) (tid : ℕ) →
    list_any (λ t. t.tid == tid) threads ≡ list_any (λ n. n == tid) (map (λ t. t.tid) threads)
any_thread [] tid = refl
any_thread (t ∷ threads) tid = ap (λ b. (t.tid == tid) || b) (any_thread threads tid)

pub lives_by : (k l : KernelState) (tid : ℕ) → tids k ≡ tids l → lives k tid ≡ lives l tid
lives_by k l tid same = any_thread k.threads tid ∙ ap (list_any (λ n. n == tid)) same ∙ sym (any_thread l.threads tid)

-- ---- what stays
-- the threads, the last number and the break
pub record IsSteady (old new : KernelState) : Type 0 where
  pub threads : tids new ≡ tids old
  pub last : new.last_tid ≡ old.last_tid
  pub break_is : new.program_break ≡ old.program_break

pub steady : (k : KernelState) → IsSteady k k
steady k = record { threads = refl; last = refl; break_is = refl }

-- the rights of the pages; and no reservation is new
pub record IsKept (c : Syscall) (g : Guest) : Type 0 where
  pub rights : g.memory.rights ≡ c.memory.rights
  pub held : (q : ℕ) → is_some (g.held q) ≡ true → is_some (c.held q) ≡ true

pub kept : (c : Syscall) (events : List Event) → IsKept c (record { memory = c.memory; held = c.held; events = events })
kept c events = record { rights = refl; held = λ q some. some }

pub filled_kept : (c : Syscall) (g : Guest) (at : ℕ) (bytes : List ℕ) → IsKept c g → IsKept c (filled at bytes g)
filled_kept c g at bytes before = record {
  rights = before.rights;
  held = λ q some. before.held q (some_of_rest _ (g.held q) some);
}

pub kept_free : (c : Syscall) (k : KernelState) (g : Guest) → IsSteady c.kernel k → IsKept c g →
    IsBreakFree c.memory c.kernel.program_break → IsBreakFree g.memory k.program_break
kept_free c k g same rest free =
    subst (λ (b : ℕ). IsBreakFree g.memory b) (sym same.break_is)
    (λ q low high. ap (λ (rights : ℕ → Option Rights). rights q) rest.rights ∙ free q low high)

-- the same threads live afterwards
pub record IsCalm (c : Syscall) (r : SyscallResult) : Type 0 where
  pub stays : Stays r.answer
  pub threads : tids r.kernel ≡ tids c.kernel
  pub last : r.kernel.last_tid ≡ c.kernel.last_tid
  pub able : can_run c.kernel c.tid ≡ true → goes_on r.answer ≡ true → can_run r.kernel c.tid ≡ true
  pub held : (q : ℕ) → is_some (r.guest.held q) ≡ true → is_some (c.held q) ≡ true
  pub free : IsBreakFree c.memory c.kernel.program_break → IsBreakFree r.guest.memory r.kernel.program_break
  pub fair : AreFair c.tid (bytes_carried c r.answer) r.guest.events
  pub silent : number c ≢ 64 → number c ≢ 66 → r.out ≡ None

pub calm_lawful : (c : Syscall) (r : SyscallResult) → IsCalm c r → IsLawful c r
calm_lawful c r calm = record {
  few = calm.fair.few;
  light = calm.fair.light;
  copies = calm.fair.copies;
  words = calm.fair.words;
  break_free = calm.free;
  numbers = stays_number r.answer c.kernel r.kernel calm.stays calm.last;
  threads = calm.threads ∙ sym (stays_tids r.answer c.tid (tids c.kernel) calm.stays);
  holders = λ live q some. lives_by r.kernel c.kernel q calm.threads ∙ live q (calm.held q some);
  begins = (stays_begins c.registers.pc r.answer calm.stays).0;
  byte = (stays_begins c.registers.pc r.answer calm.stays).1;
  able = calm.able;
  silent = calm.silent;
}

-- ---- kinds of calls
-- the thread still can run in this state
abbrev pub StillRuns : Syscall → KernelState → Type 0
StillRuns c k = can_run c.kernel c.tid ≡ true → can_run k c.tid ≡ true

-- a call that answers so and puts no byte out
pub lawful_carries : (c : Syscall) (answer : Answer) (k : KernelState) (g : Guest) → Stays answer → IsSteady c.kernel k →
    (goes_on answer ≡ true → StillRuns c k) → IsKept c g → AreFair c.tid (bytes_carried c answer) g.events →
    IsLawful c (record { answer = answer; kernel = k; guest = g; out = None })
lawful_carries c answer k g stays same able rest fair = calm_lawful c _ (record {
  stays = stays;
  threads = same.threads;
  last = same.last;
  able = λ can goes. able goes can;
  held = rest.held;
  free = kept_free c k g same rest;
  fair = fair;
  silent = λ no_write no_writev. refl;
})

-- the same of a call that carries no byte
pub lawful_by : (c : Syscall) (answer : Answer) (k : KernelState) (g : Guest) → Stays answer → IsSteady c.kernel k →
    (goes_on answer ≡ true → StillRuns c k) → IsKept c g → AreFair c.tid 0 g.events →
    IsLawful c (record { answer = answer; kernel = k; guest = g; out = None })
lawful_by c answer k g stays same able rest fair =
    lawful_carries c answer k g stays same able rest (any_fair c.tid (bytes_carried c answer) g.events fair)

-- a call that changes the kernel alone
pub lawful_changes : (c : Syscall) (k : KernelState) (value : ℕ) → IsSteady c.kernel k → StillRuns c k →
    IsLawful c (record (returns c value) { kernel = k })
lawful_changes c k value same able =
    lawful_by c (Back value) k (returns c value).guest tt same (λ goes. able) (kept c []) (none_fair c.tid)

-- a call that changes nothing
pub lawful_returns : (c : Syscall) (value : ℕ) → IsLawful c (returns c value)
lawful_returns c value = lawful_changes c c.kernel value (steady c.kernel) (λ can. can)

-- a call that fills bytes, where they can be written, and may change the kernel
pub lawful_fills : (c : Syscall) (k : KernelState) (value at : ℕ) (bytes : List ℕ) → IsSteady c.kernel k → StillRuns c k →
    length bytes ≤ bytes_carried c (Back value) + 8192 → not (writable c at (length bytes)) ≡ false →
    IsLawful c (record (returns c value ▷ fills at bytes) { kernel = k })
lawful_fills c k value at bytes same able within reach =
    lawful_carries c (Back value) k (returns c value ▷ fills at bytes).guest tt same (λ goes. able)
    (filled_kept c (returns c value).guest at bytes (kept c []))
    (fill_fair c.tid (bytes_carried c (Back value)) at (length bytes) within
    (writable_end c.memory at (length bytes) (not-false (writable c at (length bytes)) reach)))

-- a call that changes the pages, and in the kernel at most the break
pub lawful_remaps : (c : Syscall) (value b : ℕ) (m : Memory) →
    (IsBreakFree c.memory c.kernel.program_break → IsBreakFree m b) →
    IsLawful c (returns c value ▷ changes (λ k. record k { program_break = b }) ▷ remaps (λ _. m))
lawful_remaps c value b m free = calm_lawful c _ (record {
  stays = tt;
  threads = refl;
  last = refl;
  able = λ can goes. can;
  held = λ q some. some;
  free = free;
  fair = any_fair c.tid (bytes_carried c (Back value)) [] (none_fair c.tid);
  silent = λ no_write no_writev. refl;
})

pub lawful_either : (c : Syscall) (b : Bool) (one other : SyscallResult → SyscallResult) (r : SyscallResult) →
    IsLawful c (one r) → IsLawful c (other r) → IsLawful c (either b one other r)
lawful_either c true one other r here there = here
lawful_either c false one other r here there = there

-- ---- calls with tests
lawful_answered : (c : Syscall) (o : Option ℕ) (effect : Unit {0} → SyscallResult) →
    (o ≡ None → IsLawful c (effect tt)) → IsLawful c (answered_or o c effect)
lawful_answered c None effect done = done refl
lawful_answered c (Some value) effect done = lawful_returns c value

-- a call with tests is refused, or all its tests fail
pub lawful_unless : (c : Syscall) (tests : List (Bool × ℕ)) (effect : Unit {0} → SyscallResult) →
    (AreFailed tests → IsLawful c (effect tt)) → IsLawful c (unless c tests effect)
lawful_unless c tests effect done =
    lawful_answered c (first_answer tests) effect (λ passed. done (all_failed tests passed))
