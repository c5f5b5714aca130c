-- The tests of a futex call: which of them decides.
use Rattle.std.proofs.Common.{◌≡◌, Bool, true, false, Some, None, refl}
use Rattle.std.specs.Prelude.{◌%◌, ◌&&◌, ◌==◌, is_none, not}
use Rattle.guest_calls.specs.declared.operation.Operation.{Operation}
use Rattle.guest_kernel.specs.Errors.{efault, einval, enosys}
use Rattle.guest_calls.specs.Clock.{time_at, time_size}
use Rattle.guest_calls.specs.Futex.{futex_at, futex_limit, futex_tests, futex_to, futex_value3, has_bitset, has_limit, is_requeue, is_wait, reads_word}
use Rattle.guest_calls.specs.Results.{Syscall, arg, first_answer, has, readable}

abbrev pub asks_clock : Operation → Syscall → Bool
asks_clock o c = has (arg c 1) 256 && not (is_wait o)

abbrev pub at_odd_place : Operation → Syscall → Bool
at_odd_place o c = not (futex_at c % 4 == 0)

abbrev pub to_odd_place : Operation → Syscall → Bool
to_odd_place o c = is_requeue o && not (futex_to c % 4 == 0)

abbrev pub has_no_bits : Operation → Syscall → Bool
has_no_bits o c = has_bitset o && futex_value3 c == 0

abbrev pub has_far_limit : Operation → Syscall → Bool
has_far_limit o c = has_limit o c && not (readable c (futex_limit c) time_size)

abbrev pub has_bad_limit : Operation → Syscall → Bool
has_bad_limit o c = has_limit o c && is_none (time_at c.memory (futex_limit c))

abbrev pub has_far_word : Operation → Syscall → Bool
has_far_word o c = reads_word o && not (readable c (futex_at c) 4)

pub by_clock : (o : Operation) (c : Syscall) → asks_clock o c ≡ true → Some enosys ≡ first_answer (futex_tests o c)
by_clock o c h0 = rw h0 refl

pub by_place : (o : Operation) (c : Syscall) → asks_clock o c ≡ false → at_odd_place o c ≡ true → Some einval ≡ first_answer (futex_tests o c)
by_place o c h0 h1 = rw (h0, h1) refl

pub by_target : (o : Operation) (c : Syscall) → asks_clock o c ≡ false → at_odd_place o c ≡ false → to_odd_place o c ≡ true → Some einval ≡ first_answer (futex_tests o c)
by_target o c h0 h1 h2 = rw (h0, h1, h2) refl

pub by_bits : (o : Operation) (c : Syscall) → asks_clock o c ≡ false → at_odd_place o c ≡ false → to_odd_place o c ≡ false → has_no_bits o c ≡ true → Some einval ≡ first_answer (futex_tests o c)
by_bits o c h0 h1 h2 h3 = rw (h0, h1, h2, h3) refl

pub by_limit : (o : Operation) (c : Syscall) → asks_clock o c ≡ false → at_odd_place o c ≡ false → to_odd_place o c ≡ false → has_no_bits o c ≡ false → has_far_limit o c ≡ true → Some efault ≡ first_answer (futex_tests o c)
by_limit o c h0 h1 h2 h3 h4 = rw (h0, h1, h2, h3, h4) refl

pub by_time : (o : Operation) (c : Syscall) → asks_clock o c ≡ false → at_odd_place o c ≡ false → to_odd_place o c ≡ false → has_no_bits o c ≡ false → has_far_limit o c ≡ false → has_bad_limit o c ≡ true → Some einval ≡ first_answer (futex_tests o c)
by_time o c h0 h1 h2 h3 h4 h5 = rw (h0, h1, h2, h3, h4, h5) refl

pub by_word : (o : Operation) (c : Syscall) → asks_clock o c ≡ false → at_odd_place o c ≡ false → to_odd_place o c ≡ false → has_no_bits o c ≡ false → has_far_limit o c ≡ false → has_bad_limit o c ≡ false → has_far_word o c ≡ true → Some efault ≡ first_answer (futex_tests o c)
by_word o c h0 h1 h2 h3 h4 h5 h6 = rw (h0, h1, h2, h3, h4, h5, h6) refl

pub by_none : (o : Operation) (c : Syscall) → asks_clock o c ≡ false → at_odd_place o c ≡ false → to_odd_place o c ≡ false → has_no_bits o c ≡ false → has_far_limit o c ≡ false → has_bad_limit o c ≡ false → has_far_word o c ≡ false → None ≡ first_answer (futex_tests o c)
by_none o c h0 h1 h2 h3 h4 h5 h6 = rw (h0, h1, h2, h3, h4, h5, h6) refl
