use Rattle.std.specs.Fmt.{decimal}
use Rattle.guest_words.specs.declared.endings.Finish.TheVariants.{Exit, Fault, Budget, Deadlock, Deep, Schedule}
use Rattle.profile_report.specs.LineForms.{fault_words}
use Rattle.profile_report.proofs.Labels.{nothing_behind}
use Rattle.profile_report.proofs.line_reader.end_of.Goals as goal

pub returns-clause-only : goal.returns-clause-only
returns-clause-only c (Exit status) fits is = absurd (nothing_behind c.behind.result _ c.in_default.is (c.behind.ensures.only (decimal status) is))
returns-clause-only c (Fault kind tid at) fits is = absurd (nothing_behind c.behind-2.result _ c.in_default-behind.is (c.behind-2.ensures.only (fault_words kind tid at) is))
returns-clause-only c Budget fits is = c.plain_end_of.ensures.budget is
returns-clause-only c Deadlock fits is = c.plain_end_of.ensures.deadlock is
returns-clause-only c Deep fits is = c.plain_end_of.ensures.deep is
returns-clause-only c (Schedule line) fits is = absurd (nothing_behind c.behind-3.result _ c.in_default-behind-2.is (c.behind-3.ensures.only (decimal line) is))
