use Rattle.std.proofs.Common.{ap, length, sym}
use Rattle.guest_words.specs.declared.endings.Finish.{Finish}
use Rattle.trace_file.specs.declared.records.Record.TheVariants.{OfFinish}
use Rattle.trace_file.specs.Records.{number_bytes, record_bytes}
use Rattle.trace_file.proofs.record_reader.finish_size.Goals as goal

pub returns-in-Exit : goal.returns-in-Exit
unfolding number_bytes
returns-in-Exit c = sym (ap (λ (f : Finish). length (record_bytes (OfFinish f))) c.in-Exit.is)

pub returns-in-Schedule : goal.returns-in-Schedule
unfolding number_bytes
returns-in-Schedule c = sym (ap (λ (f : Finish). length (record_bytes (OfFinish f))) c.in-Schedule.is)

pub returns-in-Fault : goal.returns-in-Fault
unfolding number_bytes
returns-in-Fault c = sym (ap (λ (f : Finish). length (record_bytes (OfFinish f))) c.in-Fault.is)
