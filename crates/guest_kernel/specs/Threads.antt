-- What becomes of the live threads.
use Rattle.std.specs.Prelude.{ℕ, Bool, ◌||◌, ◌==◌, nat_le, [], ◌∷◌, ◌++◌, length, if◌then◌else◌}
use Rattle.std.specs.List.{find}
use Rattle.std.specs.Option.{option_map_or}
use Rattle.guest_words.specs.declared.limits.TheConstants.{LAST_TID, THREADS}
use Rattle.guest_kernel.specs.declared.thread.Thread.{Thread}
use Rattle.guest_kernel.specs.Kernel.{KernelState, is_thread}

-- where a zero is written when a thread ends, or 0
abbrev pub clear_tid_of : KernelState → ℕ → ℕ
clear_tid_of k tid = option_map_or (λ t. t.clear_tid) (find (is_thread tid) k.threads) 0

abbrev pub with_clear_tid : ℕ → ℕ → Thread → Thread
with_clear_tid tid at t = if is_thread tid t then record t { clear_tid = at } else t

-- as many threads live as can, or the last number was given
abbrev pub is_full : KernelState → Bool
is_full k = nat_le THREADS (length k.threads) || k.last_tid == LAST_TID

abbrev pub with_thread : ℕ → ℕ → KernelState → KernelState
with_thread tid clear_tid k =
    record k { threads = k.threads ++ record { tid = tid; clear_tid = clear_tid } ∷ []; last_tid = tid }
