use Rattle.thread_sched.proofs.Read.{never_both, no_memory, one_bad_line, read_once}
use Rattle.thread_sched.proofs.laws.a_text_reads_in_one_way.Goals as goal

pub returns-clause-entries : goal.returns-clause-entries
returns-clause-entries c text entries other fit fits is also = read_once text entries other fit fits is also

pub returns-clause-line : goal.returns-clause-line
returns-clause-line c text m n a b = one_bad_line text m n a b

pub returns-clause-apart : goal.returns-clause-apart
returns-clause-apart c text entries n fit is bad = never_both text entries n fit is bad

pub returns-clause-memory : goal.returns-clause-memory
returns-clause-memory c text bad has = no_memory text bad has
