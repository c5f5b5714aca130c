-- Bytes in reach, and the events of their copies.
use Rattle.std.proofs.Common.{◌≡◌, ℕ, zero, suc, ◌<◌, ◌≤◌, ◌+◌, ◌/◌, ◌^◌, Bool, true, false, cond, List, [], ◌∷◌, Option, Some, None, arith, refl, ap, subst, ◌∙◌}
use Rattle.std.specs.Prelude.{is_none}
use Rattle.std.specs.Option.{option_map_or, option_or}
use Rattle.guest_words.specs.Words.{word_count}
use Rattle.guest_memory.specs.declared.refusal.MemError.{MemError}
use Rattle.guest_memory.specs.declared.refusal.Permission.{Permission}
use Rattle.guest_memory.specs.declared.refusal.Permission.TheVariants as permission
use Rattle.guest_memory.specs.Memory.{Memory, byte_refusal, first_refusal, with_bytes, is_among}
use Rattle.guest_memory.specs.Reserved.{Reserved, after_write}
use Rattle.guest_memory.proofs.Accesses.{refusal_each, refusal_skip}
use Rattle.rv_exec.specs.Accesses.{can_read, can_write}
use Rattle.rv_exec.proofs.Reach as far
use Rattle.trace_model.specs.declared.event_kinds.Event.TheVariants.{Read, Fill}
use Rattle.guest_kernel.specs.Copies.{fill_event, read_event, words_touched}
use Rattle.guest_memory.proofs.HeldWords.{none_from}
use Rattle.guest_memory.proofs.PageChanges.{among_none}

-- bytes that are not refused end at 2 ^ 32 or below
pub writable_end : (m : Memory) (at n : ℕ) → can_write m at n ≡ true → 1 ≤ n → at + n ≤ 2 ^ 32
writable_end = far.writable_end

pub readable_end : (m : Memory) (at n : ℕ) → can_read m at n ≡ true → 1 ≤ n → at + n ≤ 2 ^ 32
readable_end = far.readable_end

-- some bytes give one event
pub filled_some : (at n : ℕ) → 1 ≤ n → (fill_event at n ≡ Fill (at / 4) (word_count at n) ∷ []) × (words_touched at n ≡ word_count at n)
filled_some at zero some = absurd (omega arith)
filled_some at (suc n) some = (refl, refl)

pub filled_none : (at n : ℕ) → n ≡ 0 → (fill_event at n ≡ []) × (words_touched at n ≡ 0)
filled_none at n none = (rw none refl, rw none refl)

pub read_some : (tid at n : ℕ) → 1 ≤ n → read_event tid at n ≡ Read tid (at / 4) (word_count at n) ∷ []
read_some tid at zero some = absurd (omega arith)
read_some tid at (suc n) some = refl

not_dropped : (first : ℕ) (o : Option ℕ) → cond (option_map_or (is_among first 0) o false) None o ≡ o
not_dropped first None = refl
not_dropped first (Some w) = ap (λ (b : Bool). cond b None (Some w)) (among_none first w)

-- a write of no word drops nothing
pub untouched : (held : Reserved) (first : ℕ) → after_write held None first 0 ≡ held
untouched held first = λ i q. (not_dropped first (held q)) i

-- writes change no right
pub refusal_kept : (m : Memory) (permission : Permission) (to : ℕ) (bytes : List ℕ) (at n : ℕ) → first_refusal (with_bytes m to bytes) permission at n ≡ first_refusal m permission at n
refusal_kept m permission to bytes at zero = refl
refusal_kept m permission to bytes at (suc n) = ap (λ (o : Option MemError). option_or (byte_refusal m permission at) o) (refusal_kept m permission to bytes (at + 1) n)

pub writable_kept : (m : Memory) (to : ℕ) (bytes : List ℕ) (at n : ℕ) → can_write (with_bytes m to bytes) at n ≡ can_write m at n
writable_kept m to bytes at n = ap (λ (o : Option MemError). is_none o) (refusal_kept m permission.Write to bytes at n)

-- bytes among those that are not refused
refusal_within : (m : Memory) (permission : Permission) (at n k count : ℕ) → first_refusal m permission at n ≡ None → k + count ≤ n → first_refusal m permission (at + k) count ≡ None
refusal_within m permission at n k count none fits =
    let each : (j : ℕ) → j < count → byte_refusal m permission ((at + k) + j) ≡ None = λ j lt.
    let e : at + (k + j) ≡ (at + k) + j = omega arith in
    subst (λ (a : ℕ). byte_refusal m permission a ≡ None) e (refusal_each m permission at n none (k + j) (omega (arith, lt, fits)))
    in
    let e : count ≡ count + 0 = omega arith in
    ap (λ (j : ℕ). first_refusal m permission (at + k) j) e ∙ refusal_skip m permission (at + k) count 0 each

pub reads_within : (m : Memory) (at n k count : ℕ) → can_read m at n ≡ true → k + count ≤ n → can_read m (at + k) count ≡ true
reads_within m at n k count reach fits = ap (λ (o : Option MemError). is_none o) (refusal_within m permission.Read at n k count (none_from (first_refusal m permission.Read at n) reach) fits)
