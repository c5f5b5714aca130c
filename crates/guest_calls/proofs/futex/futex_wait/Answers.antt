use Rattle.std.proofs.Common.{◌≡◌, ℕ, Bool, Option, true, false, cond, ap, sym, subst, ◌∙◌}
use Rattle.std.specs.Prelude.{◌==◌}
use Rattle.guest_kernel.specs.declared.answer.Answer.TheVariants.{Back, Block}
use Rattle.guest_kernel.specs.Errors.{eagain, etimedout}
use Rattle.guest_kernel.specs.Waits.{with_waiter}
use Rattle.guest_calls.specs.Futex.{futex_at, futex_value, is_over, waited, with_end}
use Rattle.guest_kernel.specs.Kernel.{KernelState}
use Rattle.guest_calls.specs.Outcome.{Does, asked}
use Rattle.guest_calls.specs.Results.{Syscall, word}
use Rattle.guest_calls.proofs.Waits.{waited_does}
use Rattle.guest_calls.proofs.futex.futex_wait.Goals as goal

pub returns-then-not-compare : goal.returns-then-not-compare
returns-then-not-compare c = record {
  does = λ held.
      let made : Syscall = asked c.args.caller.now c.args.state.now c.args.memory.now held in
      let end = c.wait_end-end.result in
      let tested : c.compare.result ≡ (word made (futex_at made) == futex_value made) = c.compare.ensures.same ∙ ap (λ (n : ℕ). word made (futex_at made) == n) c.argument.ensures in
      let none : c.compare.result ≡ false = c.if-not-compare.true in
      let becomes : c.args.state.now ≡ cond c.compare.result (cond (is_over end c.args.state.now.time) c.args.state.now (with_end made.tid end (with_waiter (futex_at made) made.tid c.args.bits c.args.state.now))) c.args.state.now = sym (ap (λ (b : Bool). cond b (cond (is_over end c.args.state.now.time) c.args.state.now (with_end made.tid end (with_waiter (futex_at made) made.tid c.args.bits c.args.state.now))) c.args.state.now) none) in
      subst (λ (o : Option ℕ). Does (waited made c.args.bits o) (Back eagain) c.args.state.now c.args.memory.now held c.args.events.now c.compare.new.events) (c.wait_end-end.ensures.value held)
      (waited_does c.args.caller.now c.args.state.now c.args.state.now c.args.memory.now held c.args.events.now c.note_limit.new.events c.compare.new.events c.args.bits end (Back eagain) c.compare.result
      tested c.note_limit.ensures.events c.compare.ensures.events (sym (ap (λ (b : Bool). cond b (cond (is_over end c.args.state.now.time) (Back etimedout) Block) (Back eagain)) none)) becomes);
}

pub returns : goal.returns
returns c = record {
  does = λ held.
      let made : Syscall = asked c.args.caller.now c.args.state.now c.args.memory.now held in
      let end = c.wait_end-end.result in
      let old : KernelState = c.args.state.now in
      let tested : c.compare.result ≡ (word made (futex_at made) == futex_value made) = c.compare.ensures.same ∙ ap (λ (n : ℕ). word made (futex_at made) == n) c.argument.ensures in
      let same : c.compare.result ≡ true = c.if-not-compare.false in
      let waiting : KernelState = with_end made.tid end (with_waiter (futex_at made) made.tid c.args.bits old) in
      let begun : c.wait_until.new.state ≡ cond (is_over end old.time) old waiting = c.wait_until.ensures.after ∙ ap (λ (n : ℕ). cond (is_over end old.time) old (with_end made.tid end (with_waiter n made.tid c.args.bits old))) c.argument-2.ensures in
      subst (λ (o : Option ℕ). Does (waited made c.args.bits o) c.wait_until.result c.wait_until.new.state c.args.memory.now held c.args.events.now c.compare.new.events) (c.wait_end-end.ensures.value held)
      (waited_does c.args.caller.now old c.wait_until.new.state c.args.memory.now held c.args.events.now c.note_limit.new.events c.compare.new.events c.args.bits end c.wait_until.result c.compare.result
      tested c.note_limit.ensures.events c.compare.ensures.events
      (c.wait_until.ensures.answer ∙ sym (ap (λ (b : Bool). cond b (cond (is_over end old.time) (Back etimedout) Block) (Back eagain)) same))
      (begun ∙ sym (ap (λ (b : Bool). cond b (cond (is_over end old.time) old waiting) old) same)));
}
