-- Waiting at a word and waking is lawful.
use Rattle.std.proofs.Common.{◌≡◌, ℕ, ◌+◌, Bool, true, false, cond, ◌++◌, Option, Some, None, arith, refl}
use Rattle.std.specs.Prelude.{not, ◌&&◌, ◌==◌, is_some}
use Rattle.std.specs.Option.{option_map_or}
use Rattle.std.proofs.lemmas.Bool.{not-false}
use Rattle.futex_table.specs.Waiting.{all_bits}
use Rattle.guest_kernel.specs.declared.answer.Answer.TheVariants.{Back, Block}
use Rattle.guest_calls.specs.declared.operation.Operation.{Operation}
use Rattle.guest_calls.specs.declared.operation.Operation.TheVariants.{Wait, Wake, Requeue, CmpRequeue, WaitBitset, WakeBitset}
use Rattle.guest_calls.specs.Clock.{time_size}
use Rattle.guest_kernel.specs.Errors.{eagain, enosys, etimedout}
use Rattle.guest_kernel.specs.Waits.{requeued, woken_at}
use Rattle.guest_calls.specs.Futex.{count_shifted, count_woken, futex, futex_at, futex_by, futex_limit, futex_tests, futex_to, futex_value, futex_value3, has_limit, is_over, operation, performed, reads_word, requeues, wait_end, waited, waits_for}
use Rattle.guest_kernel.specs.Kernel.{KernelState, can_run}
use Rattle.guest_calls.specs.Lawful.{IsLawful}
use Rattle.guest_kernel.specs.Copies.{read_event}
use Rattle.guest_calls.specs.Results.{Syscall, SyscallResult, answers, either, readable, reads, returns, when, word, ◌▷◌}
use Rattle.guest_kernel.proofs.Room.{read_few}
use Rattle.guest_calls.proofs.Lawful.{AreFailed, AreFair, IsSteady, kept, lawful_by, lawful_changes, lawful_either, lawful_returns, lawful_unless, read_copies, read_fair, read_weight, read_words, steady, two_fair}
use Rattle.guest_kernel.proofs.Leaving.{woken_can_run}
use Rattle.guest_kernel.proofs.Queues.{requeued_can_run}
use Rattle.guest_kernel.proofs.Reach.{readable_end}

-- ---- wakes
wakes_lawful : (c : Syscall) (value bits : ℕ) →
    IsLawful c (record (returns c value) { kernel = woken_at (futex_at c) (futex_value c) bits c.kernel })
wakes_lawful c value bits =
    lawful_changes c (woken_at (futex_at c) (futex_value c) bits c.kernel) value
    (record { threads = refl; last = refl; break_is = refl })
    (woken_can_run c.kernel _ (futex_at c) (futex_value c) bits c.tid refl)

abbrev requeued_kernel : Syscall → KernelState
requeued_kernel c = requeued (futex_at c) (futex_value c) (futex_limit c) (futex_to c) c.kernel

requeue_steady : (c : Syscall) → IsSteady c.kernel (requeued_kernel c)
requeue_steady c = record { threads = refl; last = refl; break_is = refl }

requeue_able : (c : Syscall) → can_run c.kernel c.tid ≡ true → can_run (requeued_kernel c) c.tid ≡ true
requeue_able c can = requeued_can_run c.kernel (futex_at c) (futex_value c) (futex_limit c) (futex_to c) c.tid can

-- ---- waits
-- the word that is looked at is read
word_fair : (c : Syscall) → (true && not (readable c (futex_at c) 4)) ≡ false → AreFair c.tid 0 (read_event c.tid (futex_at c) 4)
word_fair c reach =
    read_fair c.tid 0 (futex_at c) 4 (omega arith) (omega arith)
    (readable_end c.memory (futex_at c) 4 (not-false (readable c (futex_at c) 4) reach))

-- so is the limit of a wait, before it
limit_fair : (c : Syscall) → readable c (futex_limit c) time_size ≡ true → (true && not (readable c (futex_at c) 4)) ≡ false →
    AreFair c.tid 0 (read_event c.tid (futex_limit c) time_size ++ read_event c.tid (futex_at c) 4)
limit_fair c limit reach =
    two_fair c.tid (read_event c.tid (futex_limit c) time_size) (read_event c.tid (futex_at c) 4)
    (read_few c.tid (futex_limit c) time_size) (read_few c.tid (futex_at c) 4)
    (omega (arith, read_weight c.tid (futex_limit c) time_size)) (omega (arith, read_weight c.tid (futex_at c) 4))
    (omega (arith, read_words c.tid (futex_limit c) time_size, read_few c.tid (futex_limit c) time_size))
    (omega (arith, read_words c.tid (futex_at c) 4, read_few c.tid (futex_at c) 4))
    (read_copies c.tid (futex_limit c) time_size (readable_end c.memory (futex_limit c) time_size limit))
    (read_copies c.tid (futex_at c) 4 (readable_end c.memory (futex_at c) 4 (not-false (readable c (futex_at c) 4) reach)))

-- what a wait reads
abbrev looked : Syscall → Option ℕ → SyscallResult
looked c end = returns c 0 ▷ when (is_some end) (reads c.tid (futex_limit c) time_size) ▷ reads c.tid (futex_at c) 4

looked_fair : (c : Syscall) (end : Option ℕ) → (is_some end ≡ true → readable c (futex_limit c) time_size ≡ true) →
    (true && not (readable c (futex_at c) 4)) ≡ false →
    AreFair c.tid 0 (looked c end).guest.events
looked_fair c None limit reach = word_fair c reach
looked_fair c (Some end) limit reach = limit_fair c (limit refl) reach

back_lawful : (c : Syscall) (errno : ℕ) (end : Option ℕ) → AreFair c.tid 0 (looked c end).guest.events →
    IsLawful c (answers (Back errno) (looked c end))
back_lawful c errno None fair =
    lawful_by c (Back errno) c.kernel (looked c None).guest tt (steady c.kernel) (λ goes can. can) (kept c _) fair
back_lawful c errno (Some end) fair =
    lawful_by c (Back errno) c.kernel (looked c (Some end)).guest tt (steady c.kernel) (λ goes can. can) (kept c _) fair

begun_lawful : (c : Syscall) (bits : ℕ) (end : Option ℕ) → AreFair c.tid 0 (looked c end).guest.events →
    IsLawful c (waits_for c bits end (looked c end))
begun_lawful c bits None fair =
    lawful_by c Block (waits_for c bits None (looked c None)).kernel (looked c None).guest tt
    (record { threads = refl; last = refl; break_is = refl }) (λ goes. absurd (cc)) (kept c _) fair
begun_lawful c bits (Some end) fair =
    lawful_by c Block (waits_for c bits (Some end) (looked c (Some end))).kernel (looked c (Some end)).guest tt
    (record { threads = refl; last = refl; break_is = refl }) (λ goes. absurd (cc)) (kept c _) fair

waited_lawful : (c : Syscall) (bits : ℕ) (end : Option ℕ) → (is_some end ≡ true → readable c (futex_limit c) time_size ≡ true) →
    (true && not (readable c (futex_at c) 4)) ≡ false → IsLawful c (waited c bits end)
waited_lawful c bits end limit reach =
    let fair = looked_fair c end limit reach in
    let begins = either (is_over end c.kernel.time) (answers (Back etimedout)) (waits_for c bits end) in
    lawful_either c (word c (futex_at c) == futex_value c) begins (answers (Back eagain)) (looked c end)
    (lawful_either c (is_over end c.kernel.time) (answers (Back etimedout)) (waits_for c bits end) (looked c end)
    (back_lawful c etimedout end fair) (begun_lawful c bits end fair))
    (back_lawful c eagain end fair)

-- where there is an end there is a limit, which is in reach
limit_reach : (c : Syscall) (b : Bool) (end : ℕ) → (true && (not b && not (readable c (futex_limit c) time_size))) ≡ false →
    is_some (cond b None (Some end)) ≡ true → readable c (futex_limit c) time_size ≡ true
limit_reach c true end reach some = absurd (cc)
limit_reach c false end reach some = not-false (readable c (futex_limit c) time_size) reach

performed_lawful : (o : Operation) (c : Syscall) → (has_limit o c && not (readable c (futex_limit c) time_size)) ≡ false →
    (reads_word o && not (readable c (futex_at c) 4)) ≡ false → IsLawful c (performed o c)
performed_lawful Wait c limit reach =
    waited_lawful c all_bits (wait_end Wait c) (limit_reach c (futex_limit c == 0) _ limit) reach
performed_lawful WaitBitset c limit reach =
    waited_lawful c (futex_value3 c) (wait_end WaitBitset c) (limit_reach c (futex_limit c == 0) _ limit) reach
performed_lawful Wake c limit reach = wakes_lawful c (count_woken c all_bits) all_bits
performed_lawful WakeBitset c limit reach = wakes_lawful c (count_woken c (futex_value3 c)) (futex_value3 c)
performed_lawful Requeue c limit reach =
    lawful_changes c (requeued_kernel c) (count_woken c all_bits) (requeue_steady c) (requeue_able c)
performed_lawful CmpRequeue c limit reach =
    let n = count_woken c all_bits + count_shifted c in
    let read = returns c n ▷ reads c.tid (futex_at c) 4 in
    lawful_either c (word c (futex_at c) == futex_value3 c) (requeues c) (answers (Back eagain)) read
    (lawful_by c (Back n) (requeued_kernel c) read.guest tt
    (requeue_steady c) (λ goes. requeue_able c) (kept c _) (word_fair c reach))
    (lawful_by c (Back eagain) c.kernel read.guest tt (steady c.kernel) (λ goes can. can) (kept c _) (word_fair c reach))

by_operation : (o : Option Operation) (c : Syscall) → IsLawful c (option_map_or (futex_by c) o (returns c enosys))
by_operation None c = lawful_returns c enosys
by_operation (Some o) c =
    lawful_unless c (futex_tests o c) (λ _. performed o c)
    (λ (all : AreFailed (futex_tests o c)). performed_lawful o c all.1.1.1.1.0 all.1.1.1.1.1.1.0)

pub futex_is_lawful : (c : Syscall) → IsLawful c (futex c)
futex_is_lawful c = by_operation (operation c) c
