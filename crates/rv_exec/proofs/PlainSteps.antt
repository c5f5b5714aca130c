-- Plain instructions: one that goes, and a branch that faults.
use Rattle.std.proofs.Common.{◌≡◌, ℕ, Bool, true, false, Some, ap, inl, inr, ◌⊎◌, refl, subst, sym, ◌∙◌}
use Rattle.std.specs.Prelude.{nat_eq, ◌%◌}
use Rattle.guest_memory.specs.Memory.{Memory}
use Rattle.guest_memory.specs.Reserved.{Reserved}
use Rattle.guest_words.specs.declared.endings.FaultKind.TheVariants as fault
use Rattle.rv_isa.specs.declared.instruction.Instr.{Instr}
use Rattle.rv_exec.specs.Registers.{Registers}
use Rattle.rv_exec.specs.Effects.{branched, checked, effect, on_registers}
use Rattle.rv_exec.specs.Reading.{StaysPlainly, is_plain}
use Rattle.rv_exec.specs.declared.outcome.Access.TheVariants as access
use Rattle.rv_exec.specs.declared.outcome.Outcome.{Outcome}
use Rattle.rv_exec.specs.declared.outcome.Outcome.TheVariants.{Fault, Went}

-- the effect on registers is this answer, whatever else there is
abbrev pub HasEffect : Instr → Registers → Outcome × Registers → Type 0
HasEffect i old e = (m : Memory) (tid : ℕ) (held : Reserved)
    → effect tid i (record { registers = old; memory = m; held = held }) ≡ on_registers (record { registers = old; memory = m; held = held }) e

-- it went, or changed nothing and faults
abbrev pub WentOrFaults : Registers → Outcome × Registers → Type 0
WentOrFaults old e = (e.0 ≡ Went access.Nothing) ⊎ (e ≡ (Fault fault.JumpAlign, old))

some_is : (i j : Instr) → Some i ≡ Some j → i ≡ j
some_is i j is = cc

pub stays_by : (i : Instr) (old new : Registers) (e : Outcome × Registers) (outcome : Outcome) → HasEffect i old e → WentOrFaults old e →
    (outcome, new) ≡ e → (outcome ≡ Went access.Nothing → ⊥) → StaysPlainly (Some i) old new
stays_by i old new e outcome effects either is stops = elim either [
  | inl went ↦ absurd (stops (ap (λ (p : Outcome × Registers). p.0) is ∙ went))
  | inr faults ↦ record {
    kept = ap (λ (p : Outcome × Registers). p.1) (is ∙ faults);
    faults = λ j same plain m tid held.
        subst (λ (k : Instr). effect tid k (record { registers = old; memory = m; held = held }) ≡ (Fault fault.JumpAlign, record { registers = old; memory = m; held = held }))
        (some_is i j same)
        (effects m tid held ∙ ap (on_registers (record { registers = old; memory = m; held = held })) faults);
  }
]

jumped_either : (even : Bool) (target : ℕ) (r : Registers) →
    WentOrFaults r (checked even fault.JumpAlign r λ _. (Went access.Nothing, record { pc = target; regs = r.regs }))
jumped_either true target r = inl refl
jumped_either false target r = inr refl

pub branched_either : (taken : Bool) (target : ℕ) (r : Registers) → WentOrFaults r (branched taken target r)
branched_either true target r = jumped_either (nat_eq (target % 4) 0) target r
branched_either false target r = inl refl

pub plain_too : (i j : Instr) → Some i ≡ Some j → is_plain j ≡ true → is_plain i ≡ true
plain_too i j same plain = subst (λ (k : Instr). is_plain k ≡ true) (sym (some_is i j same)) plain
