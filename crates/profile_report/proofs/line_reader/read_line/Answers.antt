use Rattle.profile_report.proofs.Letters.{only_routine}
use Rattle.profile_report.proofs.line_reader.read_line.Goals as goal

pub returns-in-Some-clause-only : goal.returns-in-Some-clause-only
returns-in-Some-clause-only c l fits is = only_routine l _ _ fits is c.routine_of.result c.in-Some.ensures.found c.routine_of.ensures.only
