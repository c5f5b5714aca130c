-- Waiting at a word and waking: futex(2), with 64-bit times.
use Rattle.std.specs.Prelude.{ℕ, ◌+◌, ◌-◌, ◌%◌, ◌^◌, Bool, true, false, not, ◌&&◌, ◌==◌, bit_and, nat_le, List, [], ◌∷◌, length, is_none, is_some, unwrap_or, Option, Some, None, if◌then◌else◌}
use Rattle.std.specs.Option.{option_map, option_map_or}
use Rattle.std.specs.List.{find}
use Rattle.futex_table.specs.Waiting.{all_bits, woken, shifted}
use Rattle.guest_kernel.specs.declared.answer.Answer.TheVariants.{Back, Block}
use Rattle.guest_calls.specs.declared.operation.Operation.{Operation}
use Rattle.guest_calls.specs.declared.operation.Operation.TheVariants.{Wait, Wake, Requeue, CmpRequeue, WaitBitset, WakeBitset}
use Rattle.guest_kernel.specs.Errors.{eagain, efault, einval, enosys, etimedout}
use Rattle.guest_kernel.specs.Waits.{with_deadline, requeued, with_waiter, woken_at}
use Rattle.guest_calls.specs.Clock.{from_now, time_at, time_size}
use Rattle.guest_kernel.specs.Kernel.{KernelState}
use Rattle.guest_calls.specs.Results.{Syscall, SyscallResult, arg, returns, unless, ◌⇒◌, ◌or◌, ◌▷◌, either, when, answers, changes, reads, readable, word, has}

abbrev pub operations : List (ℕ × Operation)
operations = (0, Wait) ∷ (1, Wake) ∷ (3, Requeue) ∷ (4, CmpRequeue) ∷ (9, WaitBitset) ∷ (10, WakeBitset) ∷ []

abbrev pub operation_numbered : ℕ → Option Operation
operation_numbered n = option_map (λ row. row.1) (find (λ row. row.0 == n) operations)

-- FUTEX_PRIVATE_FLAG 128 and FUTEX_CLOCK_REALTIME 256 are no part of the operation's number
abbrev pub operation : Syscall → Option Operation
operation c = operation_numbered (bit_and (arg c 1) (2 ^ 32 - 1 - 128 - 256))

abbrev pub is_wait : Operation → Bool
is_wait Wait = true
is_wait WaitBitset = true
is_wait _ = false

abbrev pub is_requeue : Operation → Bool
is_requeue Requeue = true
is_requeue CmpRequeue = true
is_requeue _ = false

abbrev pub has_bitset : Operation → Bool
has_bitset WaitBitset = true
has_bitset WakeBitset = true
has_bitset _ = false

-- the waits and CMP_REQUEUE look at the word
abbrev pub reads_word : Operation → Bool
reads_word Wait = true
reads_word WaitBitset = true
reads_word CmpRequeue = true
reads_word _ = false

-- ---- the arguments
abbrev pub futex_at : Syscall → ℕ
futex_at c = arg c 0

-- how many to wake, or what the word has to be
abbrev pub futex_value : Syscall → ℕ
futex_value c = arg c 2

-- how many to move, or the address of a wait's time limit
abbrev pub futex_limit : Syscall → ℕ
futex_limit c = arg c 3

abbrev pub futex_to : Syscall → ℕ
futex_to c = arg c 4

-- the bits to meet, or what the word has to be for CMP_REQUEUE
abbrev pub futex_value3 : Syscall → ℕ
futex_value3 c = arg c 5

-- ---- the limit of a wait
-- it is a wait that names the address of one
abbrev pub has_limit : Operation → Syscall → Bool
has_limit o c = is_wait o && not (futex_limit c == 0)

-- for FUTEX_WAIT the limit is so long after now, and for FUTEX_WAIT_BITSET it is the time itself
abbrev pub limit_end : Operation → ℕ → ℕ → ℕ
limit_end WaitBitset now time = time
limit_end _ now time = from_now now time

-- when a wait is over, where it has a limit
abbrev pub wait_end : Operation → Syscall → Option ℕ
wait_end o c =
    if futex_limit c == 0 then None
    else Some (limit_end o c.kernel.time (unwrap_or (time_at c.memory (futex_limit c)) 0))

-- the end has come; a wait that has none is never over
abbrev pub is_over : Option ℕ → ℕ → Bool
is_over None now = false
is_over (Some end) now = nat_le end now

-- ---- the effects
-- the word is read; where it is not the value, the answer is EAGAIN, and the read stays
abbrev pub compares : Syscall → ℕ → (SyscallResult → SyscallResult) → SyscallResult → SyscallResult
compares c value effect r =
    r ▷ reads c.tid (futex_at c) 4 ▷ either (word c (futex_at c) == value) effect (answers (Back eagain))

-- where its wait has an end, that is its deadline, with the answer ETIMEDOUT
abbrev pub with_end : ℕ → Option ℕ → KernelState → KernelState
with_end tid None k = k
with_end tid (Some end) k = with_deadline tid end etimedout k

-- the thread begins to wait, with these bits, until the end
abbrev pub waits_for : Syscall → ℕ → Option ℕ → SyscallResult → SyscallResult
waits_for c bits end r =
    r ▷ changes (with_waiter (futex_at c) c.tid bits) ▷ changes (with_end c.tid end) ▷ answers Block

-- A wait reads its limit, where it has one, and then the word. It begins where the word is the value and its end is ahead.
abbrev pub waited : Syscall → ℕ → Option ℕ → SyscallResult
waited c bits end =
    returns c 0
    ▷ when (is_some end) (reads c.tid (futex_limit c) time_size)
    ▷ compares c (futex_value c) (either (is_over end c.kernel.time) (answers (Back etimedout)) (waits_for c bits end))

abbrev pub wakes : ℕ → ℕ → ℕ → SyscallResult → SyscallResult
wakes at most bits r = r ▷ changes (woken_at at most bits)

abbrev pub requeues : Syscall → SyscallResult → SyscallResult
requeues c r = r ▷ changes (requeued (futex_at c) (futex_value c) (futex_limit c) (futex_to c))

abbrev pub count_woken : Syscall → ℕ → ℕ
count_woken c bits = length (woken c.kernel.waiting (futex_at c) (futex_value c) bits)

abbrev pub count_shifted : Syscall → ℕ
count_shifted c = length (shifted c.kernel.waiting (futex_at c) (futex_value c) (futex_limit c))

-- those that wait at the word and meet the bits are woken
abbrev pub wakes_with : ℕ → Syscall → SyscallResult
wakes_with bits c = returns c (count_woken c bits) ▷ wakes (futex_at c) (futex_value c) bits

abbrev pub performed : Operation → Syscall → SyscallResult
performed Wait c = waited c all_bits (wait_end Wait c)
performed WaitBitset c = waited c (futex_value3 c) (wait_end WaitBitset c)
performed Wake c = wakes_with all_bits c
performed WakeBitset c = wakes_with (futex_value3 c) c
performed Requeue c = returns c (count_woken c all_bits) ▷ requeues c
performed CmpRequeue c = returns c (count_woken c all_bits + count_shifted c) ▷ compares c (futex_value3 c) (requeues c)

abbrev pub futex_tests : Operation → Syscall → List (Bool × ℕ)
futex_tests o c =
    has (arg c 1) 256 && not (is_wait o) ⇒ enosys
    or not (futex_at c % 4 == 0) ⇒ einval
    or is_requeue o && not (futex_to c % 4 == 0) ⇒ einval
    or has_bitset o && futex_value3 c == 0 ⇒ einval
    or has_limit o c && not (readable c (futex_limit c) time_size) ⇒ efault
    or has_limit o c && is_none (time_at c.memory (futex_limit c)) ⇒ einval
    or reads_word o && not (readable c (futex_at c) 4) ⇒ efault

abbrev pub futex_by : Syscall → Operation → SyscallResult
futex_by c o = unless c (futex_tests o c) λ _. performed o c

abbrev pub futex : Syscall → SyscallResult
futex c = option_map_or (futex_by c) (operation c) (returns c enosys)
