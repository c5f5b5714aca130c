-- The threads that wait at words of the guest's memory, one list in order of waiting: the Linux manual page futex(2),
-- FUTEX_WAIT_BITSET, FUTEX_WAKE_BITSET and FUTEX_REQUEUE.
use Rattle.std.specs.Prelude.{ℕ, ◌^◌, ◌-◌, Bool, not, ◌&&◌, ◌==◌, bit_and, List, [], ◌∷◌, ◌++◌, map, take, filter, Option}
use Rattle.std.specs.List.{find}
use Rattle.futex_table.specs.declared.waiter.Waiter.{Waiter}
use Rattle.futex_table.specs.Once.{waits}

-- bits that meet every waiter, whose bits are not 0
abbrev pub all_bits : ℕ
all_bits = 2 ^ 32 - 1

-- whether the thread waits at the address, with a bit in common
abbrev pub waits_at : ℕ → ℕ → Waiter → Bool
waits_at at bits w = (w.at == at) && not (bit_and w.bits bits == 0)

-- those who wait at the address and whose bits meet these, in order of waiting
abbrev pub waiters_at : List Waiter → ℕ → ℕ → List Waiter
waiters_at waiting at bits = filter (waits_at at bits) waiting

-- the first of them
abbrev pub first_at : List Waiter → ℕ → ℕ → Option Waiter
first_at waiting at bits = find (waits_at at bits) waiting

-- the list without these threads
abbrev pub without : List Waiter → List Waiter → List Waiter
without waiting gone = filter (λ w. not (waits gone w.tid)) waiting

-- a thread begins to wait, behind all others
abbrev pub after_wait : List Waiter → ℕ → ℕ → ℕ → List Waiter
after_wait waiting at tid bits = waiting ++ record { at = at; tid = tid; bits = bits } ∷ []

-- the first `most` who wait there, which a wake takes out
abbrev pub woken : List Waiter → ℕ → ℕ → ℕ → List Waiter
woken waiting at most bits = take most (waiters_at waiting at bits)

abbrev pub after_wake : List Waiter → ℕ → ℕ → ℕ → List Waiter
after_wake waiting at most bits = without waiting (woken waiting at most bits)

-- the first `shift` of those who still wait at the address after a wake, which a requeue moves
abbrev pub shifted : List Waiter → ℕ → ℕ → ℕ → List Waiter
shifted waiting at most shift = woken (after_wake waiting at most all_bits) at shift all_bits

abbrev pub moved_to : ℕ → Waiter → Waiter
moved_to to w = record w { at = to }

-- they go behind all others, in their order, and wait at the other address
abbrev pub after_shift : List Waiter → ℕ → ℕ → ℕ → List Waiter
after_shift waiting at shift to =
    let moved = woken waiting at shift all_bits in
    without waiting moved ++ map (moved_to to) moved

abbrev pub after_requeue : List Waiter → ℕ → ℕ → ℕ → ℕ → List Waiter
after_requeue waiting at most shift to = after_shift (after_wake waiting at most all_bits) at shift to

-- the thread waits no more
abbrev pub after_forget : List Waiter → ℕ → List Waiter
after_forget waiting tid = filter (λ w. not (w.tid == tid)) waiting
