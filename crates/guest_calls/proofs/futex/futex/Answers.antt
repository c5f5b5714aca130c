use Rattle.std.proofs.Common.{◌≡◌, ℕ, Some, None, ap, sym, subst, ◌∙◌}
use Rattle.std.specs.Prelude.{bit_and}
use Rattle.guest_kernel.specs.declared.answer.Answer.TheVariants.{Back}
use Rattle.guest_calls.specs.declared.operation.Operation.{Operation}
use Rattle.guest_calls.specs.Futex.{count_woken, futex_at, futex_tests, futex_value, operation, operation_numbered, performed, wakes, waited, wait_end}
use Rattle.guest_calls.specs.declared.operation.Operation.TheVariants.{WaitBitset}
use Rattle.guest_calls.specs.Outcome.{asked, Does}
use Rattle.guest_calls.specs.Results.{Syscall, SyscallResult, first_answer, returns, ◌▷◌}
use Rattle.guest_calls.proofs.Refusals.{does_nothing, futex_performed, futex_refused}
use Rattle.guest_calls.proofs.futex.futex.Goals as goal

pub returns-in-Some-refusal : goal.returns-in-Some-refusal
returns-in-Some-refusal c = record {
  does = λ held.
      let made : Syscall = asked c.args.caller.now c.args.state.now c.args.memory.now held in
      let errno = c.in-Some-refusal.errno in
      let is : operation made ≡ Some c.in-Some.operation = ap (λ (n : ℕ). operation_numbered (bit_and n 4294966911)) (sym c.argument.ensures) ∙ sym c.numbered.ensures ∙ c.in-Some.is in
      let refused : first_answer (futex_tests c.in-Some.operation made) ≡ Some errno = sym (c.refusal.ensures.value c.args.state.now held) ∙ c.in-Some-refusal.is in
      subst (λ (r : SyscallResult). Does r (Back errno) c.args.state.now c.args.memory.now held c.args.events.now c.args.events.now) (sym (futex_refused made c.in-Some.operation errno is refused))
      (does_nothing c.args.caller.now c.args.state.now c.args.memory.now held c.args.events.now errno);
}

pub returns-in-Wait : goal.returns-in-Wait
returns-in-Wait c = record {
  does = λ held.
      let made : Syscall = asked c.args.caller.now c.args.state.now c.args.memory.now held in
      let is : operation made ≡ Some c.in-Some.operation = ap (λ (n : ℕ). operation_numbered (bit_and n 4294966911)) (sym c.argument.ensures) ∙ sym c.numbered.ensures ∙ c.in-Some.is in
      let passed : first_answer (futex_tests c.in-Some.operation made) ≡ None = sym (c.refusal.ensures.value c.args.state.now held) ∙ c.in_default-refusal.is in
      let same = futex_performed made c.in-Some.operation is passed ∙ ap (λ (o : Operation). performed o made) c.in-Wait.is in
      subst (λ (r : SyscallResult). Does r c.futex_wait.result c.futex_wait.new.state c.args.memory.now held c.args.events.now c.futex_wait.new.events) (sym same) (c.futex_wait.ensures.does held);
}

pub returns-in-WaitBitset : goal.returns-in-WaitBitset
returns-in-WaitBitset c = record {
  does = λ held.
      let made : Syscall = asked c.args.caller.now c.args.state.now c.args.memory.now held in
      let is : operation made ≡ Some c.in-Some.operation = ap (λ (n : ℕ). operation_numbered (bit_and n 4294966911)) (sym c.argument.ensures) ∙ sym c.numbered.ensures ∙ c.in-Some.is in
      let passed : first_answer (futex_tests c.in-Some.operation made) ≡ None = sym (c.refusal.ensures.value c.args.state.now held) ∙ c.in_default-refusal.is in
      let same = futex_performed made c.in-Some.operation is passed ∙ ap (λ (o : Operation). performed o made) c.in-WaitBitset.is in
      subst (λ (r : SyscallResult). Does r c.futex_wait-in-WaitBitset.result c.futex_wait-in-WaitBitset.new.state c.args.memory.now held c.args.events.now c.futex_wait-in-WaitBitset.new.events) (sym same) (subst (λ (bits : ℕ). Does (waited made bits (wait_end WaitBitset made)) c.futex_wait-in-WaitBitset.result c.futex_wait-in-WaitBitset.new.state c.args.memory.now held c.args.events.now c.futex_wait-in-WaitBitset.new.events) c.argument-bits.ensures (c.futex_wait-in-WaitBitset.ensures.does held));
}

pub returns-in-Wake : goal.returns-in-Wake
returns-in-Wake c = record {
  does = λ held.
      let made : Syscall = asked c.args.caller.now c.args.state.now c.args.memory.now held in
      let is : operation made ≡ Some c.in-Some.operation = ap (λ (n : ℕ). operation_numbered (bit_and n 4294966911)) (sym c.argument.ensures) ∙ sym c.numbered.ensures ∙ c.in-Some.is in
      let passed : first_answer (futex_tests c.in-Some.operation made) ≡ None = sym (c.refusal.ensures.value c.args.state.now held) ∙ c.in_default-refusal.is in
      let same = futex_performed made c.in-Some.operation is passed ∙ ap (λ (o : Operation). performed o made) c.in-Wake.is in
      subst (λ (r : SyscallResult). Does r c.futex_wake.result c.futex_wake.new.state c.args.memory.now held c.args.events.now c.args.events.now) (sym same) (c.futex_wake.ensures c.args.memory.now held c.args.events.now);
}

pub returns-in-WakeBitset : goal.returns-in-WakeBitset
returns-in-WakeBitset c = record {
  does = λ held.
      let made : Syscall = asked c.args.caller.now c.args.state.now c.args.memory.now held in
      let is : operation made ≡ Some c.in-Some.operation = ap (λ (n : ℕ). operation_numbered (bit_and n 4294966911)) (sym c.argument.ensures) ∙ sym c.numbered.ensures ∙ c.in-Some.is in
      let passed : first_answer (futex_tests c.in-Some.operation made) ≡ None = sym (c.refusal.ensures.value c.args.state.now held) ∙ c.in_default-refusal.is in
      let same = futex_performed made c.in-Some.operation is passed ∙ ap (λ (o : Operation). performed o made) c.in-WakeBitset.is in
      subst (λ (r : SyscallResult). Does r c.futex_wake-in-WakeBitset.result c.futex_wake-in-WakeBitset.new.state c.args.memory.now held c.args.events.now c.args.events.now) (sym same) (subst (λ (bits : ℕ). Does (returns made (count_woken made bits) ▷ wakes (futex_at made) (futex_value made) bits) c.futex_wake-in-WakeBitset.result c.futex_wake-in-WakeBitset.new.state c.args.memory.now held c.args.events.now c.args.events.now) c.argument-in-WakeBitset.ensures (c.futex_wake-in-WakeBitset.ensures c.args.memory.now held c.args.events.now));
}

pub returns-in-Requeue : goal.returns-in-Requeue
returns-in-Requeue c = record {
  does = λ held.
      let made : Syscall = asked c.args.caller.now c.args.state.now c.args.memory.now held in
      let is : operation made ≡ Some c.in-Some.operation = ap (λ (n : ℕ). operation_numbered (bit_and n 4294966911)) (sym c.argument.ensures) ∙ sym c.numbered.ensures ∙ c.in-Some.is in
      let passed : first_answer (futex_tests c.in-Some.operation made) ≡ None = sym (c.refusal.ensures.value c.args.state.now held) ∙ c.in_default-refusal.is in
      let same = futex_performed made c.in-Some.operation is passed ∙ ap (λ (o : Operation). performed o made) c.in-Requeue.is in
      subst (λ (r : SyscallResult). Does r c.futex_requeue.result c.futex_requeue.new.state c.args.memory.now held c.args.events.now c.args.events.now) (sym same) (c.futex_requeue.ensures c.args.memory.now held c.args.events.now);
}

pub returns-in-CmpRequeue : goal.returns-in-CmpRequeue
returns-in-CmpRequeue c = record {
  does = λ held.
      let made : Syscall = asked c.args.caller.now c.args.state.now c.args.memory.now held in
      let is : operation made ≡ Some c.in-Some.operation = ap (λ (n : ℕ). operation_numbered (bit_and n 4294966911)) (sym c.argument.ensures) ∙ sym c.numbered.ensures ∙ c.in-Some.is in
      let passed : first_answer (futex_tests c.in-Some.operation made) ≡ None = sym (c.refusal.ensures.value c.args.state.now held) ∙ c.in_default-refusal.is in
      let same = futex_performed made c.in-Some.operation is passed ∙ ap (λ (o : Operation). performed o made) c.in-CmpRequeue.is in
      subst (λ (r : SyscallResult). Does r c.futex_cmp_requeue.result c.futex_cmp_requeue.new.state c.args.memory.now held c.args.events.now c.futex_cmp_requeue.new.events) (sym same) (c.futex_cmp_requeue.ensures.does held);
}
