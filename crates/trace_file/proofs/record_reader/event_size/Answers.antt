use Rattle.std.proofs.Common.{ap, length, sym}
use Rattle.trace_model.specs.declared.event_kinds.Event.{Event}
use Rattle.trace_file.specs.declared.records.Record.TheVariants.{OfEvent}
use Rattle.trace_file.specs.Records.{number_bytes, record_bytes}
use Rattle.trace_file.proofs.record_reader.event_size.Goals as goal

pub returns-in-Step : goal.returns-in-Step
unfolding number_bytes
returns-in-Step c = sym (ap (λ (e : Event). length (record_bytes (OfEvent e))) c.in-Step.is)

pub returns-in-Read : goal.returns-in-Read
unfolding number_bytes
returns-in-Read c = sym (ap (λ (e : Event). length (record_bytes (OfEvent e))) c.in-Read.is)

pub returns-in-Write : goal.returns-in-Write
unfolding number_bytes
returns-in-Write c = sym (ap (λ (e : Event). length (record_bytes (OfEvent e))) c.in-Write.is)

pub returns-in-Fill : goal.returns-in-Fill
unfolding number_bytes
returns-in-Fill c = sym (ap (λ (e : Event). length (record_bytes (OfEvent e))) c.in-Fill.is)

pub returns-in-Call : goal.returns-in-Call
unfolding number_bytes
returns-in-Call c = sym (ap (λ (e : Event). length (record_bytes (OfEvent e))) c.in-Call.is)

pub returns-in-Ret : goal.returns-in-Ret
unfolding number_bytes
returns-in-Ret c = sym (ap (λ (e : Event). length (record_bytes (OfEvent e))) c.in-Ret.is)

pub returns-in-Start : goal.returns-in-Start
unfolding number_bytes
returns-in-Start c = sym (ap (λ (e : Event). length (record_bytes (OfEvent e))) c.in-Start.is)

pub returns-in-End : goal.returns-in-End
unfolding number_bytes
returns-in-End c = sym (ap (λ (e : Event). length (record_bytes (OfEvent e))) c.in-End.is)
