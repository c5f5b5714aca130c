-- How far bytes reach, and the words that an instruction accesses.
use Rattle.std.proofs.Common.{◌≡◌, ℕ, ◌<◌, ◌≤◌, ◌+◌, ◌-◌, ◌/◌, ◌^◌, ◌*◌, ◌&&◌, Bool, true, false, cond, List, Option, None, arith, refl}
use Rattle.std.specs.Prelude.{◌%◌, nat_eq, nat_lt}
use Rattle.std.proofs.lemmas.Bool.Decides.{nat_tests}
use Rattle.std.proofs.lemmas.Bool.{and_parts}
use Rattle.guest_words.specs.declared.endings.FaultKind.{FaultKind}
use Rattle.guest_words.specs.declared.endings.FaultKind.TheVariants as fault
use Rattle.guest_words.specs.declared.rights.Rights.{Rights}
use Rattle.guest_words.specs.Words.{word_count}
use Rattle.guest_memory.specs.declared.refusal.Permission.{Permission}
use Rattle.guest_memory.specs.declared.refusal.Permission.TheVariants as permission
use Rattle.guest_memory.specs.declared.size.Size.{Size}
use Rattle.guest_memory.specs.declared.size.Size.TheVariants.{One, Two, Four}
use Rattle.guest_memory.specs.Memory.{Memory, byte_count, byte_refusal, first_refusal, page_refusal}
use Rattle.guest_memory.specs.Reserved.{holds, without_thread}
use Rattle.guest_memory.proofs.Accesses.{refusal_each}
use Rattle.rv_isa.specs.declared.instruction.AtomicOp.{AtomicOp}
use Rattle.rv_isa.specs.declared.instruction.AtomicOp.TheVariants.{Lr, Sc, Swap, Add, Xor, And, Or, Min, Max, Minu, Maxu}
use Rattle.rv_isa.specs.declared.instruction.Instr.TheVariants.{Jal, Jalr, Branch, Load, Store, Atomic}
use Rattle.rv_exec.specs.declared.outcome.Access.TheVariants as access
use Rattle.rv_exec.specs.declared.outcome.Outcome.{Outcome}
use Rattle.rv_exec.specs.declared.outcome.Outcome.TheVariants as outcome
use Rattle.rv_exec.specs.Accesses.{can_read, can_write, load_size, store_size}
use Rattle.rv_exec.specs.Effects.{ExecState, atomic_at, branched, checked, jumped, modified, next, store_where, written, x}
use Rattle.rv_exec.specs.Operations.{is_taken, add_offset}
use Rattle.rv_exec.specs.Registers.{Registers}
use Rattle.rv_exec.specs.Laws.{AccessesFewWords, AccessesMemory, AreFewWords}
use Rattle.guest_memory.proofs.HeldWords.{none_from}

refused_outside : (permission : Permission) (inside : Bool) (r : Option Rights) → page_refusal permission (cond inside r None) ≡ None →
    inside ≡ true
refused_outside permission true r h = refl
refused_outside permission false r h = absurd (cc)

-- a byte that is not refused lies below 2 ^ 32
below_end : (m : Memory) (permission : Permission) (at : ℕ) → byte_refusal m permission at ≡ None → at < 2 ^ 32
below_end m permission at none =
    let inside : nat_lt (at / 4096) 1048576 ≡ true = refused_outside permission (nat_lt (at / 4096) 1048576) (m.rights (at / 4096)) none in
    grind (arith, nat_tests, inside)

-- bytes that are not refused end at 2 ^ 32 or below
reach_end : (m : Memory) (permission : Permission) (at n : ℕ) → first_refusal m permission at n ≡ None → 1 ≤ n → at + n ≤ 2 ^ 32
reach_end m permission at n none some =
    let last : byte_refusal m permission (at + (n - 1)) ≡ None = refusal_each m permission at n none (n - 1) (omega arith) in
    let low : at + (n - 1) < 2 ^ 32 = below_end m permission (at + (n - 1)) last in
    omega (arith, low, some)

pub writable_end : (m : Memory) (at n : ℕ) → can_write m at n ≡ true → 1 ≤ n → at + n ≤ 2 ^ 32
writable_end m at n reach some = reach_end m permission.Write at n (none_from (first_refusal m permission.Write at n) reach) some

pub readable_end : (m : Memory) (at n : ℕ) → can_read m at n ≡ true → 1 ≤ n → at + n ≤ 2 ^ 32
readable_end m at n reach some = reach_end m permission.Read at n (none_from (first_refusal m permission.Read at n) reach) some

-- ---- the words of an instruction
few_words : (at n : ℕ) → 1 ≤ n → n ≤ 4 → at + n ≤ 2 ^ 32 → AreFewWords (at / 4) (word_count at n)
few_words at n some few fits = (omega (arith, some), omega (arith, few), omega (arith, some, fits))

-- a size is one to four bytes
size_some : (size : Size) → (1 ≤ byte_count size) × (byte_count size ≤ 4)
size_some One = (omega arith, omega arith)
size_some Two = (omega arith, omega arith)
size_some Four = (omega arith, omega arith)

words_read : (m : Memory) (at : ℕ) (size : Size) → can_read m at (byte_count size) ≡ true → AreFewWords (at / 4)
    (word_count at (byte_count size))
words_read m at size reach =
    let some = size_some size in
    few_words at (byte_count size) some.0 some.1 (readable_end m at (byte_count size) reach some.0)

words_written : (m : Memory) (at : ℕ) (size : Size) → can_write m at (byte_count size) ≡ true → AreFewWords (at / 4)
    (word_count at (byte_count size))
words_written m at size reach =
    let some = size_some size in
    few_words at (byte_count size) some.0 some.1 (writable_end m at (byte_count size) reach some.0)

-- a word of four bytes
one_word : (at : ℕ) → at + 4 ≤ 2 ^ 32 → AreFewWords (at / 4) 1
one_word at fits = (omega arith, omega arith, omega (arith, fits))

checked_accesses : {S : Type 0} (b : Bool) (kind : FaultKind) (s : S) (rest : Unit {0} → Outcome × S) →
    (b ≡ true → AccessesMemory (rest tt).0) → AccessesMemory (checked b kind s rest).0
checked_accesses true kind s rest own = own refl
checked_accesses false kind s rest own = tt

jumped_accesses : (target : ℕ) (regs : List ℕ) (r : Registers) → AccessesMemory (jumped target regs r).0
jumped_accesses target regs r = by (nat_eq (target % 4) 0)
  where
    by : (even : Bool) →
        AccessesMemory (checked even fault.JumpAlign r (λ _. (outcome.Went access.Nothing, record { pc = target; regs = regs }))).0
    by true = tt
    by false = tt

branched_accesses : (b : Bool) (target : ℕ) (r : Registers) → AccessesMemory (branched b target r).0
branched_accesses true target r = jumped_accesses target r.regs r
branched_accesses false target r = tt

stored_accesses : (b : Bool) (tid rd at n : ℕ) (c : ExecState) → at + 4 ≤ 2 ^ 32 →
    AccessesMemory (store_where b tid rd at n c).0
stored_accesses true tid rd at n c fits = one_word at fits
stored_accesses false tid rd at n c fits = tt

modified_accesses : (tid : ℕ) (op : AtomicOp) (rd at n : ℕ) (c : ExecState) → AccessesMemory (modified tid op rd at n c).0
modified_accesses tid op rd at n c =
    checked_accesses (can_read c.memory at 4 && can_write c.memory at 4) fault.Store c _
    (λ reach. let end = readable_end c.memory at 4 ((and_parts (can_read c.memory at 4) (can_write c.memory at 4) reach).0) (omega arith) in omega (arith, end))

atomic_accesses : (tid : ℕ) (op : AtomicOp) (rd at n : ℕ) (c : ExecState) → AccessesMemory (atomic_at tid op rd at n c).0
atomic_accesses tid Lr rd at n c = checked_accesses (can_read c.memory at 4) fault.Load c _ (λ reach. one_word at (readable_end c.memory at 4 reach (omega arith)))
atomic_accesses tid Sc rd at n c =
    checked_accesses (can_write c.memory at 4) fault.Store c _
    (λ reach. stored_accesses (holds c.held tid (at / 4)) tid rd at n (record c { held = without_thread c.held tid }) (writable_end c.memory at 4 reach (omega arith)))
atomic_accesses tid Swap rd at n c = modified_accesses tid Swap rd at n c
atomic_accesses tid Add rd at n c = modified_accesses tid Add rd at n c
atomic_accesses tid Xor rd at n c = modified_accesses tid Xor rd at n c
atomic_accesses tid And rd at n c = modified_accesses tid And rd at n c
atomic_accesses tid Or rd at n c = modified_accesses tid Or rd at n c
atomic_accesses tid Min rd at n c = modified_accesses tid Min rd at n c
atomic_accesses tid Max rd at n c = modified_accesses tid Max rd at n c
atomic_accesses tid Minu rd at n c = modified_accesses tid Minu rd at n c
atomic_accesses tid Maxu rd at n c = modified_accesses tid Maxu rd at n c

-- each instruction accesses few words of memory
pub effect_accesses : AccessesFewWords
effect_accesses tid (Jal rd offset) c = jumped_accesses (add_offset c.registers.pc offset) (written c.registers rd (next c.registers)) c.registers
effect_accesses tid (Jalr rd base offset) c = jumped_accesses (add_offset (x c base) offset / 2 * 2) (written c.registers rd (next c.registers)) c.registers
effect_accesses tid (Branch test left right offset) c = branched_accesses (is_taken test (x c left) (x c right)) (add_offset c.registers.pc offset) c.registers
effect_accesses tid (Load kind rd base offset) c =
    let at = add_offset (x c base) offset in
    checked_accesses (can_read c.memory at (byte_count (load_size kind))) fault.Load c.registers _ (λ reach. words_read c.memory at (load_size kind) reach)
effect_accesses tid (Store kind from base offset) c =
    let at = add_offset (x c base) offset in
    checked_accesses (can_write c.memory at (byte_count (store_size kind))) fault.Store c _ (λ reach. words_written c.memory at (store_size kind) reach)
effect_accesses tid (Atomic op rd base from order) c =
    checked_accesses (nat_eq (x c base % 4) 0) fault.AtomicAlign c _ (λ even. atomic_accesses tid op rd (x c base) (x c from) c)
effect_accesses tid _ c = tt
