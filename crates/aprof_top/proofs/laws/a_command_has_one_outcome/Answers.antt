use Rattle.aprof_top.proofs.OneOutcome.{one_outcome}
use Rattle.aprof_top.proofs.laws.a_command_has_one_outcome.Goals as goal

pub returns : goal.returns
returns c = one_outcome c.a_demo_has_one_file.ensures (record {
  one_trace = c.a_text_is_of_one_trace.ensures;
  one_refusal = c.bytes_read_in_one_way.ensures.refused;
  apart = c.bytes_read_in_one_way.ensures.apart;
})
