use Rattle.profile_report.proofs.Letters.{only_first, only_steps, only_open, only_done, only_end}
use Rattle.profile_report.proofs.line_reader.plain_line.Goals as goal

pub returns-in-Some-clause-only : goal.returns-in-Some-clause-only
returns-in-Some-clause-only c l plain fits is = only_first l _ fits is c.version_of.result _ c.in-Some.is c.in-Some.ensures.found c.version_of.ensures.only

pub returns-in-Some-behind-clause-only : goal.returns-in-Some-behind-clause-only
returns-in-Some-behind-clause-only c l plain fits is = only_steps l _ _ fits is _ c.in-Some-behind.ensures.found c.steps_of.ensures.only

pub returns-in-Some-behind-2-clause-only : goal.returns-in-Some-behind-2-clause-only
returns-in-Some-behind-2-clause-only c l plain fits is = only_open l _ _ fits is _ c.in-Some-behind-2.ensures.found c.pending_of.ensures.only

pub returns-in-Some-behind-3-clause-only : goal.returns-in-Some-behind-3-clause-only
returns-in-Some-behind-3-clause-only c l plain fits is = only_done l _ _ fits is _ c.in-Some-behind-3.ensures.found c.count_of.ensures.only

pub returns-in-Some-end_of-clause-only : goal.returns-in-Some-end_of-clause-only
returns-in-Some-end_of-clause-only c l plain fits is = only_end l _ fits is c.end_of.result _ c.in-Some-end_of.is c.in-Some-end_of.ensures.found.1 c.end_of.ensures.only
