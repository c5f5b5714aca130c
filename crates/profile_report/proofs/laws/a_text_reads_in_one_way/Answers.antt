use Rattle.profile_report.proofs.OneReading.{never_refused, one_refusal}
use Rattle.profile_report.proofs.laws.a_text_reads_in_one_way.Goals as goal

pub returns-clause-refusal : goal.returns-clause-refusal
returns-clause-refusal c text e f a b ne nf = one_refusal text e f a b ne nf

pub returns-clause-apart : goal.returns-clause-apart
returns-clause-apart c text r e valid is why = never_refused text r e valid is why
