-- Which verdicts have which status.
use Rattle.std.proofs.Common.{◌≡◌, ℕ, sym, ◌∙◌, arith}
use Rattle.guest_words.specs.declared.endings.Finish.TheVariants as finish
use Rattle.aprof_top.specs.Answers.{IsWritten}
use Rattle.aprof_top.specs.Verdicts.{verdict_status}
use Rattle.aprof_top.specs.declared.ending.Verdict as verdicts
use Rattle.aprof_top.specs.declared.ending.Verdict.TheVariants as verdict

-- a status of its own
apart : (status own : ℕ) → status ≡ own → (own ≡ 2 → ⊥) → (own ≡ 4 → ⊥) → (own ≡ 10 → ⊥) → IsWritten status
apart status own is two four ten = record {
  could_read = λ e. two (sym is ∙ e);
  could_write = λ e. four (sym is ∙ e);
  had_memory = λ e. ten (sym is ∙ e);
}

-- the status of a verdict is of the written product
pub written_status : (v : verdicts.Verdict) (status : ℕ) → status ≡ verdict_status v → IsWritten status
written_status verdict.BadCommand status is = apart status 1 is (λ e. omega (arith, e)) (λ e. omega (arith, e)) (λ e. omega (arith, e))
written_status (verdict.BadImage e) status is = apart status 3 is (λ e. omega (arith, e)) (λ e. omega (arith, e)) (λ e. omega (arith, e))
written_status (verdict.BadSchedule line) status is = apart status 9 is (λ e. omega (arith, e)) (λ e. omega (arith, e)) (λ e. omega (arith, e))
written_status (verdict.BadTrace why) status is = apart status 13 is (λ e. omega (arith, e)) (λ e. omega (arith, e)) (λ e. omega (arith, e))
written_status verdict.TooLarge status is = apart status 11 is (λ e. omega (arith, e)) (λ e. omega (arith, e)) (λ e. omega (arith, e))
written_status verdict.ResultTooLarge status is = apart status 11 is (λ e. omega (arith, e)) (λ e. omega (arith, e)) (λ e. omega (arith, e))
written_status verdict.Done status is = apart status 0 is (λ e. omega (arith, e)) (λ e. omega (arith, e)) (λ e. omega (arith, e))
written_status (verdict.Ran (finish.Exit code)) status is = apart status 0 is (λ e. omega (arith, e)) (λ e. omega (arith, e)) (λ e. omega (arith, e))
written_status (verdict.Ran (finish.Fault kind tid at)) status is = apart status 5 is (λ e. omega (arith, e)) (λ e. omega (arith, e)) (λ e. omega (arith, e))
written_status (verdict.Ran finish.Budget) status is = apart status 6 is (λ e. omega (arith, e)) (λ e. omega (arith, e)) (λ e. omega (arith, e))
written_status (verdict.Ran finish.Deadlock) status is = apart status 7 is (λ e. omega (arith, e)) (λ e. omega (arith, e)) (λ e. omega (arith, e))
written_status (verdict.Ran finish.Deep) status is = apart status 8 is (λ e. omega (arith, e)) (λ e. omega (arith, e)) (λ e. omega (arith, e))
written_status (verdict.Ran (finish.Schedule line)) status is = apart status 9 is (λ e. omega (arith, e)) (λ e. omega (arith, e)) (λ e. omega (arith, e))
