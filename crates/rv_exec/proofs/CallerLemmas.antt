-- What holds of every effect.
use Rattle.std.proofs.Common.{◌≡◌, ◌+◌, ◌<◌, ◌^◌, ◌&&◌, ◌∷◌, length, suc, ◌∙◌, Bool, true, false, Option, Some, None, ap, cond, sym, refl, ℕ, arith, inl, inr}
use Rattle.std.specs.Prelude.{◌==◌, ◌%◌, ◌/◌, nat_eq, is_some}
use Rattle.std.proofs.lemmas.Bool.{cases_eq, ne_eqb}
use Rattle.std.proofs.lemmas.Bool.Decides.{nat_tests}
use Rattle.guest_memory.specs.declared.size.Size.TheVariants.{Four}
use Rattle.guest_words.specs.declared.endings.FaultKind.{FaultKind}
use Rattle.guest_words.specs.declared.endings.FaultKind.TheVariants as fault
use Rattle.guest_words.specs.Words.{word_count}
use Rattle.guest_memory.specs.declared.size.Size.{Size}
use Rattle.guest_memory.specs.Memory.{byte_count}
use Rattle.guest_memory.specs.Reserved.{HoldAtMost, Reserved, is_dropped, with_word, without_thread}
use Rattle.rv_isa.specs.declared.instruction.AtomicOp.{AtomicOp}
use Rattle.rv_isa.specs.declared.instruction.AtomicOp.TheVariants.{Lr, Sc, Swap, Add, Xor, And, Or, Min, Max, Minu, Maxu}
use Rattle.rv_isa.specs.declared.instruction.Instr.{Instr}
use Rattle.rv_isa.specs.declared.instruction.Instr.TheVariants.{Jal, Jalr, Branch, Load, Store, Atomic, Ecall, Ebreak}
use Rattle.rv_exec.specs.declared.outcome.Access.{Access}
use Rattle.rv_exec.specs.declared.outcome.Outcome.{Outcome}
use Rattle.rv_exec.specs.declared.outcome.Outcome.TheVariants.{Went, Syscall, Fault}
use Rattle.rv_exec.specs.Registers.{Registers}
use Rattle.rv_exec.specs.Accesses.{can_read, can_write}
use Rattle.rv_exec.specs.Effects.{ExecState, advanced, atomic_at, branched, checked, effect, modified, on_registers, store_where, with_registers, with_stored}
use Rattle.rv_exec.specs.Laws.{KeepsAlignment, KeepsRights, KeepsUnlessWent, OnlyEcallCalls, OthersGainNothing, RefusalsChangeNothing}

-- What holds of the effect of an instruction other than ECALL: where it did not go on all is as it was, what another
-- thread has reserved afterwards it had reserved before, and it is no system call.
pub record IsLawful (tid : ℕ) (c : ExecState) (e : Outcome × ExecState) : Type 0 where
  pub kept : KeepsUnlessWent e.0 c e.1
  pub others : (other : ℕ) → (other ≡ tid → ⊥) → is_some (e.1.held other) ≡ true → e.1.held other ≡ c.held other
  pub no_call : e.0 ≡ Syscall → ⊥
  pub rights : e.1.memory.rights ≡ c.memory.rights
  pub aligned : c.registers.pc % 4 ≡ 0 → e.1.registers.pc % 4 ≡ 0

-- the place behind an instruction, and the target of a jump
pub next_aligned : (pc : ℕ) → pc % 4 ≡ 0 → ((pc + 4) % 2 ^ 32) % 4 ≡ 0
next_aligned pc even = omega arith

target_aligned : (target : ℕ) → nat_eq (target % 4) 0 ≡ true → target % 4 ≡ 0
target_aligned target is = grind (arith, nat_tests)

fault_lawful : (tid : ℕ) (kind : FaultKind) (c : ExecState) → IsLawful tid c (Fault kind, c)
fault_lawful tid kind c = record { kept = refl; others = λ other differs some. refl; no_call = λ e. cc; rights = refl; aligned = λ even. even }

-- an instruction that goes on and leaves the reservations
went_lawful : (tid : ℕ) (c : ExecState) (access : Access) (new : ExecState) → new.held ≡ c.held → new.memory.rights ≡ c.memory.rights → (c.registers.pc % 4 ≡ 0 → new.registers.pc % 4 ≡ 0) → IsLawful tid c (Went access, new)
went_lawful tid c access new same rights aligned = record {
  kept = tt;
  others = λ other differs some. ap (λ (h : Reserved). h other) same;
  no_call = λ e. cc;
  rights = rights;
  aligned = aligned;
}

-- an instruction that goes on and takes reservations away
dropped_lawful : (tid : ℕ) (c : ExecState) (access : Access) (new : ExecState) → ((other : ℕ) → (other ≡ tid → ⊥) → is_some (new.held other) ≡ true → new.held other ≡ c.held other) → new.memory.rights ≡ c.memory.rights → (c.registers.pc % 4 ≡ 0 → new.registers.pc % 4 ≡ 0) → IsLawful tid c (Went access, new)
dropped_lawful tid c access new others rights aligned = record { kept = tt; others = others; no_call = λ e. cc; rights = rights; aligned = aligned }

checked_lawful : (tid : ℕ) (b : Bool) (kind : FaultKind) (c : ExecState) (rest : Unit {0} → Outcome × ExecState) → IsLawful tid c (rest tt) → IsLawful tid c (checked b kind c rest)
checked_lawful tid true kind c rest own = own
checked_lawful tid false kind c rest own = fault_lawful tid kind c

registers_lawful : (tid : ℕ) (b : Bool) (kind : FaultKind) (c : ExecState) (access : Access) (r : Registers) → (b ≡ true → c.registers.pc % 4 ≡ 0 → r.pc % 4 ≡ 0) → IsLawful tid c (on_registers c (checked b kind c.registers (λ _. (Went access, r))))
registers_lawful tid true kind c access r aligned = went_lawful tid c access (with_registers r c) refl refl (aligned refl)
registers_lawful tid false kind c access r aligned = fault_lawful tid kind c

branched_lawful : (tid : ℕ) (b : Bool) (target : ℕ) (c : ExecState) → IsLawful tid c (on_registers c (branched b target c.registers))
branched_lawful tid true target c = registers_lawful tid (nat_eq (target % 4) 0) _ c _ _ (λ is even. target_aligned target is)
branched_lawful tid false target c = went_lawful tid c _ _ refl refl (next_aligned c.registers.pc)

-- a reservation that is still there
left_of : (b : Bool) (o : Option ℕ) → is_some (cond b None o) ≡ true → cond b None o ≡ o
left_of true o some = absurd (cc)
left_of false o some = refl

left_twice : (b d : Bool) (o : Option ℕ) → is_some (cond d None (cond b None o)) ≡ true → cond d None (cond b None o) ≡ o
left_twice b true o some = absurd (cc)
left_twice b false o some = left_of b o some

stored_lawful : (tid : ℕ) (c : ExecState) (access : Access) (size : Size) (at n : ℕ) (r : Registers) → (c.registers.pc % 4 ≡ 0 → r.pc % 4 ≡ 0) → IsLawful tid c (Went access, with_stored tid size at n (with_registers r c))
stored_lawful tid c access size at n r aligned =
    dropped_lawful tid c access _ (λ other differs some. left_of (is_dropped c.held (Some tid) (at / 4) (word_count at (byte_count size)) other) (c.held other) some) refl aligned

stored_behind : (tid : ℕ) (c : ExecState) (access : Access) (size : Size) (at n : ℕ) → IsLawful tid c (Went access, with_stored tid size at n (with_registers (advanced c.registers) c))
stored_behind tid c access size at n = stored_lawful tid c access size at n (advanced c.registers) (next_aligned c.registers.pc)

reserved_lawful : (tid rd at : ℕ) (c : ExecState) (access : Access) (new : ExecState) → new.held ≡ with_word c.held tid (at / 4) → new.memory.rights ≡ c.memory.rights → (c.registers.pc % 4 ≡ 0 → new.registers.pc % 4 ≡ 0) → IsLawful tid c (Went access, new)
reserved_lawful tid rd at c access new is rights aligned =
    dropped_lawful tid c access new (λ other differs some. ap (λ (h : Reserved). h other) is ∙ ap (λ (b : Bool). cond b (Some (at / 4)) (c.held other)) (ne_eqb other tid differs)) rights aligned

conditional_lawful : (b : Bool) (tid rd at n : ℕ) (c : ExecState) → IsLawful tid c (store_where b tid rd at n (record c { held = without_thread c.held tid }))
conditional_lawful true tid rd at n c =
    dropped_lawful tid c _ _ (λ other differs some. left_twice (other == tid) (is_dropped (without_thread c.held tid) (Some tid) (at / 4) (word_count at 4) other) (c.held other) some) refl (next_aligned c.registers.pc)
conditional_lawful false tid rd at n c = dropped_lawful tid c _ _ (λ other differs some. left_of (other == tid) (c.held other) some) refl (next_aligned c.registers.pc)

modified_lawful : (tid : ℕ) (op : AtomicOp) (rd at n : ℕ) (c : ExecState) → IsLawful tid c (modified tid op rd at n c)
modified_lawful tid op rd at n c = checked_lawful tid (can_read c.memory at 4 && can_write c.memory at 4) fault.Store c _ (stored_lawful tid c _ Four at _ _ (next_aligned c.registers.pc))

atomic_at_lawful : (tid : ℕ) (op : AtomicOp) (rd at n : ℕ) (c : ExecState) → IsLawful tid c (atomic_at tid op rd at n c)
atomic_at_lawful tid Lr rd at n c = checked_lawful tid (can_read c.memory at 4) fault.Load c _ (reserved_lawful tid rd at c _ _ refl refl (next_aligned c.registers.pc))
atomic_at_lawful tid Sc rd at n c = search (checked_lawful, conditional_lawful)
atomic_at_lawful tid Swap rd at n c = modified_lawful tid Swap rd at n c
atomic_at_lawful tid Add rd at n c = modified_lawful tid Add rd at n c
atomic_at_lawful tid Xor rd at n c = modified_lawful tid Xor rd at n c
atomic_at_lawful tid And rd at n c = modified_lawful tid And rd at n c
atomic_at_lawful tid Or rd at n c = modified_lawful tid Or rd at n c
atomic_at_lawful tid Min rd at n c = modified_lawful tid Min rd at n c
atomic_at_lawful tid Max rd at n c = modified_lawful tid Max rd at n c
atomic_at_lawful tid Minu rd at n c = modified_lawful tid Minu rd at n c
atomic_at_lawful tid Maxu rd at n c = modified_lawful tid Maxu rd at n c

-- each instruction but ECALL
pub effect_lawful : (tid : ℕ) (i : Instr) (c : ExecState) → (i ≡ Ecall → ⊥) → IsLawful tid c (effect tid i c)
effect_lawful tid (Jal rd offset) c other = registers_lawful tid _ _ c _ _ (λ is even. target_aligned _ is)
effect_lawful tid (Jalr rd base offset) c other = registers_lawful tid _ _ c _ _ (λ is even. target_aligned _ is)
effect_lawful tid (Branch test left right offset) c other = search branched_lawful
effect_lawful tid (Load kind rd base offset) c other = registers_lawful tid _ _ c _ _ (λ _. next_aligned c.registers.pc)
effect_lawful tid (Store kind from base offset) c other = search (checked_lawful, stored_behind)
effect_lawful tid (Atomic op rd base from order) c other = search (checked_lawful, atomic_at_lawful)
effect_lawful tid Ecall c other = absurd (other refl)
effect_lawful tid Ebreak c other = fault_lawful tid fault.Break c
effect_lawful tid _ c other = went_lawful tid c _ _ refl refl (next_aligned c.registers.pc)

pub effect_kept : RefusalsChangeNothing
effect_kept tid Ecall c = refl
effect_kept tid i c = (effect_lawful tid i c (λ e. cc)).kept

pub effect_calls : OnlyEcallCalls
effect_calls tid Ecall c = (λ e. refl, λ e. refl)
effect_calls tid i c = (λ e. absurd ((effect_lawful tid i c (λ is. cc)).no_call e), λ e. cc)

pub effect_others : OthersGainNothing
effect_others tid Ecall c other differs some = refl
effect_others tid i c other differs some = (effect_lawful tid i c (λ e. cc)).others other differs some

-- an instruction leaves the rights of all pages, and the pc a multiple of 4
pub effect_rights : KeepsRights
effect_rights tid Ecall c = refl
effect_rights tid i c = (effect_lawful tid i c (λ e. cc)).rights

pub effect_aligned : KeepsAlignment
effect_aligned tid Ecall c even = even
effect_aligned tid i c even = (effect_lawful tid i c (λ e. cc)).aligned even

held_before : (tid : ℕ) (i : Instr) (old new : ExecState) (answer : Outcome) (other : ℕ) → (answer, new) ≡ effect tid i old → (other ≡ tid → ⊥) → is_some (new.held other) ≡ true → is_some (old.held other) ≡ true
held_before tid i old new answer other does differs some =
    let is : (effect tid i old).1.held other ≡ new.held other = ap (λ (e : Outcome × ExecState). e.1.held other) (sym does) in
    let left : is_some ((effect tid i old).1.held other) ≡ true = ap (λ (o : Option ℕ). is_some o) is ∙ some in
    ap (λ (o : Option ℕ). is_some o) (sym (effect_others tid i old other differs left)) ∙ left

-- one more instruction, one more thread with a reservation at most
pub HoldAtMost-executed : (tid : ℕ) (i : Instr) (old new : ExecState) (answer : Outcome) (most : ℕ) → (answer, new) ≡ effect tid i old → HoldAtMost old.held most → HoldAtMost new.held (most + 1)
HoldAtMost-executed tid i old new answer most does before = record {
  holders = tid ∷ before.holders;
  few = omega (arith, before.few);
  each = λ other some. elim (cases_eq other tid) [
    | inl same ↦ (0, omega arith, sym same)
    | inr differs ↦
        let place = before.each other (held_before tid i old new answer other does differs some) in
        let low : place.0 < length before.holders = place.1 in
        (suc place.0, omega arith, place.2)
  ];
}
