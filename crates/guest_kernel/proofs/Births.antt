-- Threads that are born.
use Rattle.std.proofs.Common.{◌≡◌, ℕ, ◌<◌, ◌≤◌, ◌+◌, false, List, [], ◌∷◌, ◌++◌, length, arith, sym, subst, length-append, ◌∙◌}
use Rattle.std.specs.Prelude.{◌==◌, nat_le}
use Rattle.std.specs.List.{list_any}
use Rattle.std.proofs.lemmas.Bool.Decides.{nat_tests}
use Rattle.std.proofs.lemmas.List.Folds.{list_any-append}
use Rattle.std.proofs.lemmas.Bool.{or_parts}
use Rattle.guest_words.specs.declared.limits.TheConstants.{LAST_TID, THREADS}
use Rattle.guest_kernel.specs.declared.thread.Thread.{Thread}
use Rattle.guest_kernel.specs.Threads.{is_full, with_thread}
use Rattle.guest_kernel.specs.Invariant.{IsState}
use Rattle.guest_kernel.specs.Kernel.{KernelState, is_thread}
use Rattle.guest_kernel.proofs.Rising.{rises_push}

-- where there is room, fewer than `THREADS` threads live
pub room_left : (k : KernelState) → is_full k ≡ false → length k.threads < THREADS
room_left k room = let few = (or_parts (nat_le THREADS (length k.threads)) (k.last_tid == LAST_TID) room).0 in grind (arith, nat_tests, few)

-- and the last number was not given
pub number_left : (k : KernelState) → is_full k ≡ false → k.last_tid ≤ LAST_TID → k.last_tid < LAST_TID
number_left k room within = let other = (or_parts (nat_le THREADS (length k.threads)) (k.last_tid == LAST_TID) room).1 in grind (arith, nat_tests, other)

lived_before : (ts : List Thread) (t : Thread) (q : ℕ) → list_any (is_thread q) (ts ++ t ∷ []) ≡ false → list_any (is_thread q) ts ≡ false
lived_before ts t q gone = (or_parts (list_any (is_thread q) ts) (list_any (is_thread q) (t ∷ [])) (sym (list_any-append (is_thread q) ts (t ∷ [])) ∙ gone)).0

born_state : (k : KernelState) (tid clear_tid : ℕ) → IsState k → tid ≡ k.last_tid + 1 → is_full k ≡ false → IsState (with_thread tid clear_tid k)
born_state k tid clear_tid is next room = record {
  rising = rises_push 0 k.threads k.last_tid (record { tid = tid; clear_tid = clear_tid }) is.rising (omega (arith, next));
  few = let n = length-append k.threads (record { tid = tid; clear_tid = clear_tid } ∷ []) in let r = room_left k room in omega (arith, n, r);
  blocked_live = λ q gone. is.blocked_live q (lived_before k.threads (record { tid = tid; clear_tid = clear_tid }) q gone);
  stdin_within = is.stdin_within;
  descriptors_sound = is.descriptors_sound;
}

pub born_is_state : (k new : KernelState) (tid clear_tid : ℕ) → IsState k → tid ≡ k.last_tid + 1 → is_full k ≡ false → new ≡ with_thread tid clear_tid k → IsState new
born_is_state k new tid clear_tid is next room after = subst IsState (sym after) (born_state k tid clear_tid is next room)
