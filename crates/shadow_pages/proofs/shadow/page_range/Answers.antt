use Rattle.std.proofs.Common.{◌*◌, ◌/◌, arith, inl, inr}
use Rattle.std.proofs.lemmas.Bool.{cases_eq}
use Rattle.shadow_pages.proofs.shadow.page_range.Goals as goal

pub returns-else-count-eq0-clause-meets : goal.returns-else-count-eq0-clause-meets
returns-else-count-eq0-clause-meets c = λ n low high.
    let same = c.number.ensures.same in
    let same2 = c.number-low.ensures.same in
    elim (cases_eq n (c.args.first / 1024)) [
      | inl is ↦ record { word = c.args.first; low = omega arith; high = omega arith; page = omega arith }
      | inr differs ↦ record { word = 1024 * n; low = omega arith; high = omega arith; page = omega arith }
    ]
