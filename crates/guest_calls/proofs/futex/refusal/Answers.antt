use Rattle.std.proofs.Common.{ℕ, ap, sym, ◌∙◌}
use Rattle.std.specs.Prelude.{◌%◌, ◌==◌, not}
use Rattle.std.proofs.lemmas.Bool.{ne_eqb}
use Rattle.guest_calls.specs.Outcome.{asked}
use Rattle.guest_calls.proofs.FutexTests.{by_bits, by_clock, by_limit, by_none, by_place, by_target, by_time, by_word}
use Rattle.guest_calls.proofs.futex.refusal.Goals as goal

pub returns-then-is_clock_unfit-clause-value : goal.returns-then-is_clock_unfit-clause-value
returns-then-is_clock_unfit-clause-value c = λ state held.
    by_clock c.args.operation (asked c.args.caller.now state c.args.memory.now held) (sym c.is_clock_unfit.ensures ∙ c.if-is_clock_unfit.true)

pub returns-then-argument-ne0-clause-value : goal.returns-then-argument-ne0-clause-value
returns-then-argument-ne0-clause-value c = λ state held.
    by_place c.args.operation (asked c.args.caller.now state c.args.memory.now held) (sym c.is_clock_unfit.ensures ∙ c.if-is_clock_unfit.false) (ap (λ (n : ℕ). not (n % 4 == 0)) (sym c.argument.ensures) ∙ ap not (ne_eqb _ 0 c.if-argument-ne0.true))

pub returns-then-is_target_unaligned-clause-value : goal.returns-then-is_target_unaligned-clause-value
returns-then-is_target_unaligned-clause-value c = λ state held.
    by_target c.args.operation (asked c.args.caller.now state c.args.memory.now held) (sym c.is_clock_unfit.ensures ∙ c.if-is_clock_unfit.false) (ap (λ (n : ℕ). not (n % 4 == 0)) (sym c.argument.ensures) ∙ ap (λ (n : ℕ). not (n == 0)) c.if-argument-ne0.false) (sym c.is_target_unaligned.ensures ∙ c.if-is_target_unaligned.true)

pub returns-then-is_bitset_empty-clause-value : goal.returns-then-is_bitset_empty-clause-value
returns-then-is_bitset_empty-clause-value c = λ state held.
    by_bits c.args.operation (asked c.args.caller.now state c.args.memory.now held) (sym c.is_clock_unfit.ensures ∙ c.if-is_clock_unfit.false) (ap (λ (n : ℕ). not (n % 4 == 0)) (sym c.argument.ensures) ∙ ap (λ (n : ℕ). not (n == 0)) c.if-argument-ne0.false) (sym c.is_target_unaligned.ensures ∙ c.if-is_target_unaligned.false) (sym c.is_bitset_empty.ensures ∙ c.if-is_bitset_empty.true)

pub returns-then-is_limit_denied-clause-value : goal.returns-then-is_limit_denied-clause-value
returns-then-is_limit_denied-clause-value c = λ state held.
    by_limit c.args.operation (asked c.args.caller.now state c.args.memory.now held) (sym c.is_clock_unfit.ensures ∙ c.if-is_clock_unfit.false) (ap (λ (n : ℕ). not (n % 4 == 0)) (sym c.argument.ensures) ∙ ap (λ (n : ℕ). not (n == 0)) c.if-argument-ne0.false) (sym c.is_target_unaligned.ensures ∙ c.if-is_target_unaligned.false) (sym c.is_bitset_empty.ensures ∙ c.if-is_bitset_empty.false) (sym c.is_limit_denied.ensures ∙ c.if-is_limit_denied.true)

pub returns-then-is_limit_bad-clause-value : goal.returns-then-is_limit_bad-clause-value
returns-then-is_limit_bad-clause-value c = λ state held.
    by_time c.args.operation (asked c.args.caller.now state c.args.memory.now held) (sym c.is_clock_unfit.ensures ∙ c.if-is_clock_unfit.false) (ap (λ (n : ℕ). not (n % 4 == 0)) (sym c.argument.ensures) ∙ ap (λ (n : ℕ). not (n == 0)) c.if-argument-ne0.false) (sym c.is_target_unaligned.ensures ∙ c.if-is_target_unaligned.false) (sym c.is_bitset_empty.ensures ∙ c.if-is_bitset_empty.false) (sym c.is_limit_denied.ensures ∙ c.if-is_limit_denied.false) (sym c.is_limit_bad.ensures ∙ c.if-is_limit_bad.true)

pub returns-then-is_word_denied-clause-value : goal.returns-then-is_word_denied-clause-value
returns-then-is_word_denied-clause-value c = λ state held.
    by_word c.args.operation (asked c.args.caller.now state c.args.memory.now held) (sym c.is_clock_unfit.ensures ∙ c.if-is_clock_unfit.false) (ap (λ (n : ℕ). not (n % 4 == 0)) (sym c.argument.ensures) ∙ ap (λ (n : ℕ). not (n == 0)) c.if-argument-ne0.false) (sym c.is_target_unaligned.ensures ∙ c.if-is_target_unaligned.false) (sym c.is_bitset_empty.ensures ∙ c.if-is_bitset_empty.false) (sym c.is_limit_denied.ensures ∙ c.if-is_limit_denied.false) (sym c.is_limit_bad.ensures ∙ c.if-is_limit_bad.false) (sym c.is_word_denied.ensures ∙ c.if-is_word_denied.true)

pub returns-clause-value : goal.returns-clause-value
returns-clause-value c = λ state held.
    by_none c.args.operation (asked c.args.caller.now state c.args.memory.now held) (sym c.is_clock_unfit.ensures ∙ c.if-is_clock_unfit.false) (ap (λ (n : ℕ). not (n % 4 == 0)) (sym c.argument.ensures) ∙ ap (λ (n : ℕ). not (n == 0)) c.if-argument-ne0.false) (sym c.is_target_unaligned.ensures ∙ c.if-is_target_unaligned.false) (sym c.is_bitset_empty.ensures ∙ c.if-is_bitset_empty.false) (sym c.is_limit_denied.ensures ∙ c.if-is_limit_denied.false) (sym c.is_limit_bad.ensures ∙ c.if-is_limit_bad.false) (sym c.is_word_denied.ensures ∙ c.if-is_word_denied.false)
