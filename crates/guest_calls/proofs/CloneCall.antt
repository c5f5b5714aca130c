-- A new thread is lawful.
use Rattle.std.proofs.Common.{◌≡◌, ℕ, ◌≤◌, ◌+◌, ◌^◌, Bool, true, false, List, [], ◌∷◌, ◌++◌, ap, ap₂, refl, ◌∙◌, arith}
use Rattle.std.specs.Prelude.{◌==◌, ◌||◌, ◌&&◌, not}
use Rattle.std.specs.Int.{w32, to_le_bytes}
use Rattle.std.specs.List.{list_any}
use Rattle.std.proofs.lemmas.Bool.{and_parts}
use Rattle.std.proofs.lemmas.List.{map-append}
use Rattle.std.proofs.lemmas.List.Folds.{list_any-append}
use Rattle.guest_memory.specs.Memory.{Memory}
use Rattle.rv_exec.specs.Accesses.{can_write}
use Rattle.guest_calls.proofs.Passed.{asked_reach}
use Rattle.guest_memory.proofs.CallerLemmas.{some_of_rest}
use Rattle.guest_kernel.specs.declared.thread.Thread.{Thread}
use Rattle.guest_calls.specs.Clone.{child_clear_tid, clone, clone_effect, clone_tests, is_denied, sets_child, sets_parent}
use Rattle.guest_kernel.specs.Kernel.{is_blocked, is_thread, lives}
use Rattle.guest_calls.specs.Lawful.{IsLawful}
use Rattle.guest_kernel.specs.Copies.{fill_event}
use Rattle.guest_calls.specs.Results.{Syscall, Guest, arg, filled_where, has, returns}
use Rattle.guest_kernel.proofs.Room.{fill_few}
use Rattle.guest_calls.proofs.Lawful.{AreFailed, AreFair, IsKept, fill_copies, fill_fair, fill_weight, fill_words, filled_kept, kept, kept_free, lawful_unless, none_fair, steady, two_fair}
use Rattle.guest_kernel.proofs.Reach.{writable_end}

-- what is asked for and not denied can be written
pub not_denied : (m : Memory) (asked : Bool) (at : ℕ) → is_denied m asked at ≡ false → asked ≡ true → can_write m at 4 ≡ true
not_denied m asked at h is = asked_reach asked (can_write m at 4) h is

-- a word that is asked for where it is not denied
asked_end : (m : Memory) (asked : Bool) (at : ℕ) → is_denied m asked at ≡ false → asked ≡ true → at + 4 ≤ 2 ^ 32
asked_end m asked at allowed is = writable_end m at 4 (not_denied m asked at allowed is) (omega arith)

where_kept : (c : Syscall) (asked : Bool) (at n : ℕ) (g : Guest) → IsKept c g → IsKept c (filled_where asked at n g)
where_kept c true at n g before = filled_kept c g at (to_le_bytes w32 n) before
where_kept c false at n g before = before

where_fair : (c : Syscall) (a b : Bool) (to at n : ℕ) → (a ≡ true → to + 4 ≤ 2 ^ 32) → (b ≡ true → at + 4 ≤ 2 ^ 32) →
    AreFair c.tid 0 (filled_where b at n (filled_where a to n (returns c n).guest)).events
where_fair c true true to at n one two =
    two_fair c.tid (fill_event to 4) (fill_event at 4) (fill_few to 4) (fill_few at 4)
    (omega (arith, fill_weight to 4)) (omega (arith, fill_weight at 4))
    (omega (arith, fill_words to 4, fill_few to 4)) (omega (arith, fill_words at 4, fill_few at 4))
    (fill_copies c.tid to 4 (λ some. one refl)) (fill_copies c.tid at 4 (λ some. two refl))
where_fair c true false to at n one two = fill_fair c.tid 0 to 4 (omega arith) (λ some. one refl)
where_fair c false true to at n one two = fill_fair c.tid 0 at 4 (omega arith) (λ some. two refl)
where_fair c false false to at n one two = none_fair c.tid

-- who lives still lives
more_live : (threads : List Thread) (t : Thread) (q : ℕ) →
    list_any (is_thread q) threads ≡ true → list_any (is_thread q) (threads ++ t ∷ []) ≡ true
more_live threads t q live =
    list_any-append (is_thread q) threads (t ∷ []) ∙ ap (λ (b : Bool). b || list_any (is_thread q) (t ∷ [])) live

pub clone_is_lawful : (c : Syscall) → IsLawful c (clone c)
clone_is_lawful c =
    lawful_unless c (clone_tests c) (λ _. clone_effect c)
    (λ (all : AreFailed (clone_tests c)).
    let flags = arg c 0 in
    let tid = c.kernel.last_tid + 1 in
    let clear = child_clear_tid flags (arg c 4) in
    let parent = filled_where (has flags sets_parent) (arg c 2) tid (returns c tid).guest in
    let child = filled_where (has flags sets_child) (arg c 4) tid parent in
    let fair =
    where_fair c (has flags sets_parent) (has flags sets_child) (arg c 2) (arg c 4) tid
    (asked_end c.memory _ (arg c 2) all.1.1.0) (asked_end c.memory _ (arg c 4) all.1.1.1.0) in
    let rest =
    where_kept c (has flags sets_child) (arg c 4) tid parent
    (where_kept c (has flags sets_parent) (arg c 2) tid (returns c tid).guest (kept c [])) in
    record {
      few = fair.few;
      light = fair.light;
      copies = fair.copies;
      words = fair.words;
      break_free = kept_free c c.kernel child (steady c.kernel) rest;
      numbers = (refl, refl, all.1.0);
      threads = map-append (λ t. t.tid) c.kernel.threads (record { tid = tid; clear_tid = clear } ∷ []);
      holders = λ live q some.
          more_live c.kernel.threads _ q (live q (rest.held q (some_of_rest (q == tid) (child.held q) some)));
      begins = refl;
      byte = tt;
      able = λ can goes.
          let parts = and_parts (lives c.kernel c.tid) (not (is_blocked c.kernel c.tid)) can in
          ap₂ (λ (a b : Bool). a && b)
          (more_live c.kernel.threads (record { tid = tid; clear_tid = clear }) c.tid parts.0) parts.1;
      silent = λ no_write no_writev. refl;
    })
