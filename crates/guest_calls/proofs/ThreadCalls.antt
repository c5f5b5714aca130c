-- The calls on threads and the process are lawful.
use Rattle.std.proofs.Common.{◌≡◌, ℕ, List, [], ◌∷◌, map, Bool, true, false, not, ◌&&◌, ap, ap₂, sym, refl, ◌∙◌, arith, Option, None, cond}
use Rattle.std.specs.Prelude.{◌==◌, if◌then◌else◌, filter, is_some, replicate}
use Rattle.std.specs.Int.{w32, to_le_bytes}
use Rattle.std.specs.List.{list_any}
use Rattle.std.proofs.lemmas.Bool.{or_parts, and_parts}
use Rattle.std.proofs.lemmas.Bool.Decides.{nat_tests}
use Rattle.futex_table.specs.Waiting.{all_bits}
use Rattle.guest_kernel.specs.declared.answer.Answer.{Answer}
use Rattle.guest_kernel.specs.declared.answer.Answer.TheVariants.{Back, Yield, ThreadEnd, ProcessEnd}
use Rattle.guest_kernel.specs.declared.thread.Thread.{Thread}
use Rattle.guest_calls.specs.Futex.{wakes}
use Rattle.guest_kernel.specs.Kernel.{KernelState, has_others, is_blocked, is_thread, other_threads}
use Rattle.guest_calls.specs.Lawful.{BeginsBehind, EndsWithByte, GivesNumber, IsLawful, bytes_carried, goes_on, tids, tids_after}
use Rattle.guest_calls.specs.Results.{Syscall, Guest, answers, arg, fills, fills_word, returns, when, writable, ◌▷◌}
use Rattle.guest_kernel.specs.Threads.{with_clear_tid}
use Rattle.guest_calls.specs.Threads.{clear_tid, exit, exit_group, is_cleared, leaves, rt_sigprocmask, rt_sigprocmask_effect, rt_sigprocmask_tests, sched_yield, set_tid_address, status}
use Rattle.guest_calls.proofs.Lawful.{AreFailed, AreFair, IsKept, IsSteady, any_fair, few_bytes, fill_fair, filled_kept, kept, kept_free, lawful_by, lawful_changes, lawful_fills, lawful_returns, lawful_unless, lives_by, none_fair, steady}
use Rattle.guest_kernel.proofs.Leaving.{cleared_lives, still_gone, tid_kept}
use Rattle.guest_kernel.proofs.Reach.{writable_end}

-- ---- small calls
cleared_tids : (threads : List Thread) (tid at : ℕ) →
    map (λ t. t.tid) (map (with_clear_tid tid at) threads) ≡ map (λ t. t.tid) threads
cleared_tids [] tid at = refl
cleared_tids (t ∷ threads) tid at =
    ap₂ (λ (n : ℕ) (ns : List ℕ). n ∷ ns) (tid_kept tid at t) (cleared_tids threads tid at)

pub set_tid_address_is_lawful : (c : Syscall) → IsLawful c (set_tid_address c)
set_tid_address_is_lawful c =
    let threads = c.kernel.threads in
    lawful_changes c (set_tid_address c).kernel c.tid
    (record { threads = cleared_tids threads c.tid (arg c 0); last = refl; break_is = refl })
    (λ can. ap (λ (b : Bool). b && not (is_blocked c.kernel c.tid)) (cleared_lives c.tid (arg c 0) c.tid threads) ∙ can)

pub sched_yield_is_lawful : (c : Syscall) → IsLawful c (sched_yield c)
sched_yield_is_lawful c =
    lawful_by c Yield c.kernel (returns c 0).guest tt (steady c.kernel) (λ goes can. can) (kept c []) (none_fair c.tid)

masked : (c : Syscall) (asked : Bool) (at : ℕ) → (asked && not (writable c at 8)) ≡ false →
    IsLawful c (when asked (fills at (replicate 8 0)) (returns c 0))
masked c true at reach =
    lawful_fills c c.kernel 0 at (replicate 8 0) (steady c.kernel) (λ can. can)
    (few_bytes 8 (bytes_carried c (Back 0)) (omega arith)) reach
masked c false at reach = lawful_returns c 0

pub rt_sigprocmask_is_lawful : (c : Syscall) → IsLawful c (rt_sigprocmask c)
rt_sigprocmask_is_lawful c =
    lawful_unless c (rt_sigprocmask_tests c) (λ _. rt_sigprocmask_effect c)
    (λ (all : AreFailed (rt_sigprocmask_tests c)). masked c (not (arg c 2 == 0)) (arg c 2) all.0)

-- ---- ends
tids_cond : (b : Bool) (t : Thread) (rest : List Thread) (ns : List ℕ) → map (λ t. t.tid) rest ≡ ns →
    map (λ t. t.tid) (cond b (t ∷ rest) rest) ≡ cond b (t.tid ∷ ns) ns
tids_cond true t rest ns same = ap (λ (ms : List ℕ). t.tid ∷ ms) same
tids_cond false t rest ns same = same

filter_tids : (threads : List Thread) (tid : ℕ) →
    map (λ t. t.tid) (filter (λ t. not (is_thread tid t)) threads) ≡ filter (λ n. not (n == tid)) (map (λ t. t.tid) threads)
filter_tids [] tid = refl
filter_tids (t ∷ threads) tid =
    tids_cond (not (t.tid == tid)) t (filter (λ u. not (is_thread tid u)) threads) _ (filter_tids threads tid)

true_of : (b : Bool) → (b ≡ false → ⊥) → b ≡ true
true_of true never = refl
true_of false never = absurd (never refl)

-- a live thread other than this one is among the others
lives_other : (threads : List Thread) (tid q : ℕ) → list_any (is_thread q) threads ≡ true → (q ≡ tid → ⊥) →
    list_any (is_thread q) (filter (λ t. not (is_thread tid t)) threads) ≡ true
lives_other threads tid q live differs =
    true_of (list_any (is_thread q) (filter (λ t. not (is_thread tid t)) threads))
    (λ gone. let before : list_any (is_thread q) threads ≡ false = still_gone threads tid q differs gone in cc)

gone_by : (q tid : ℕ) (held : Option ℕ) (b : Bool) → (q == tid) ≡ b → is_some (cond b None held) ≡ true →
    (q ≡ tid → ⊥) × (is_some held ≡ true)
gone_by q tid held true is some = absurd (cc)
gone_by q tid held false is some = (λ same. grind (arith, nat_tests), some)

none_left : (threads : List Thread) (tid : ℕ) → list_any (λ t. not (is_thread tid t)) threads ≡ false →
    filter (λ t. not (is_thread tid t)) threads ≡ []
none_left [] tid none = refl
none_left (t ∷ threads) tid none =
    let parts = or_parts (not (is_thread tid t)) (list_any (λ u. not (is_thread tid u)) threads) none in
    ap₂ (λ (b : Bool) (rest : List Thread). cond b (t ∷ rest) rest) parts.0 (none_left threads tid parts.1)

-- the thread ends with this answer, and the others stay
leaves_by : (c : Syscall) (answer : Answer) (k : KernelState) (g : Guest) →
    tids_after answer c.tid (tids c.kernel) ≡ filter (λ n. not (n == c.tid)) (tids c.kernel) →
    GivesNumber answer c.kernel (record k { threads = other_threads k c.tid }) → BeginsBehind c.registers.pc answer →
    EndsWithByte answer → (goes_on answer ≡ true → ⊥) → IsSteady c.kernel k → IsKept c g → AreFair c.tid 0 g.events →
    IsLawful c (record { answer = Back 0; kernel = k; guest = g; out = None } ▷ leaves c.tid ▷ answers answer)
leaves_by c answer k g left numbers begins byte ends same rest fair = record {
  few = fair.few;
  light = fair.light;
  copies = fair.copies;
  words = (any_fair c.tid (bytes_carried c answer) g.events fair).words;
  break_free = kept_free c k g same rest;
  numbers = numbers;
  threads = filter_tids k.threads c.tid ∙ ap (filter (λ n. not (n == c.tid))) same.threads ∙ sym left;
  holders = λ live q some.
      let both = gone_by q c.tid (g.held q) (q == c.tid) refl some in
      lives_other k.threads c.tid q (lives_by k c.kernel q same.threads ∙ live q (rest.held q both.1)) both.0;
  begins = begins;
  byte = byte;
  able = λ can goes. absurd (ends goes);
  silent = λ no_write no_writev. refl;
}

-- by whether it is the last
leaves_lawful : (c : Syscall) (k : KernelState) (g : Guest) (others : Bool) → has_others c.kernel c.tid ≡ others →
    IsSteady c.kernel k → IsKept c g → AreFair c.tid 0 g.events →
    IsLawful c (record { answer = Back 0; kernel = k; guest = g; out = None }
    ▷ leaves c.tid ▷ answers (if others then ThreadEnd else ProcessEnd (status c)))
leaves_lawful c k g true is same rest fair = leaves_by c ThreadEnd k g refl same.last tt tt (λ goes. cc) same rest fair
leaves_lawful c k g false is same rest fair =
    let none = ap (map (λ t. t.tid)) (none_left c.kernel.threads c.tid is) in
    leaves_by c (ProcessEnd (status c)) k g (sym none ∙ filter_tids c.kernel.threads c.tid) same.last tt (omega arith)
    (λ goes. cc) same rest fair

-- the end of a thread is told where the word can be written
told_lawful : (c : Syscall) (b : Bool) (at : ℕ) → (b ≡ true → writable c at 4 ≡ true) →
    IsLawful c (returns c 0 ▷ when b (λ r. r ▷ fills_word at 0 ▷ wakes at 1 all_bits)
    ▷ leaves c.tid ▷ answers (if has_others c.kernel c.tid then ThreadEnd else ProcessEnd (status c)))
told_lawful c true at reach =
    let told = returns c 0 ▷ fills_word at 0 ▷ wakes at 1 all_bits in
    leaves_lawful c told.kernel told.guest (has_others c.kernel c.tid) refl
    (record { threads = refl; last = refl; break_is = refl })
    (filled_kept c (returns c 0).guest at (to_le_bytes w32 0) (kept c []))
    (fill_fair c.tid 0 at 4 (omega arith) (writable_end c.memory at 4 (reach refl)))
told_lawful c false at reach =
    leaves_lawful c c.kernel (returns c 0).guest (has_others c.kernel c.tid) refl (steady c.kernel) (kept c []) (none_fair c.tid)

cleared_reach : (others set reach : Bool) → (others && (set && reach)) ≡ true → reach ≡ true
cleared_reach others set reach h = (and_parts set reach (and_parts others (set && reach) h).1).1

pub exit_is_lawful : (c : Syscall) → IsLawful c (exit c)
exit_is_lawful c =
    let at = clear_tid c in
    told_lawful c (is_cleared c) at (cleared_reach (has_others c.kernel c.tid) (not (at == 0)) (writable c at 4))

pub exit_group_is_lawful : (c : Syscall) → IsLawful c (exit_group c)
exit_group_is_lawful c = record {
  few = omega arith;
  light = omega arith;
  copies = tt;
  words = (none_fair c.tid).words;
  break_free = λ free. free;
  numbers = refl;
  threads = refl;
  holders = λ live q some. absurd (cc);
  begins = tt;
  byte = omega arith;
  able = λ can goes. absurd (cc);
  silent = λ no_write no_writev. refl;
}
