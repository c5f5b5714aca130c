use Rattle.shadow_core.proofs.Applied.{empty_stands_for}
use Rattle.shadow_core.proofs.ReadEvents.{nothing_told}
use Rattle.shadow_core.proofs.profiler.Profiler.new.Goals as goal

pub returns-clause-table : goal.returns-clause-table
returns-clause-table g c =
    nothing_told c.in_ok-new.field-0.pages c.in_ok-new-2.field-0.pages c.in_ok-new-3.field-0 c.in_ok-new.ensures c.in_ok-new-2.ensures c.in_ok-new-3.ensures

pub returns-clause-stands : goal.returns-clause-stands
returns-clause-stands g c = λ some.
    empty_stands_for g.S.Stamp.MAX _
    (nothing_told c.in_ok-new.field-0.pages c.in_ok-new-2.field-0.pages c.in_ok-new-3.field-0 c.in_ok-new.ensures c.in_ok-new-2.ensures c.in_ok-new-3.ensures)
    some
