use Rattle.aprof_top.proofs.ReplayedReports.{traces_replay}
use Rattle.aprof_top.proofs.laws.traces_replay.Goals as goal

pub returns : goal.returns
returns c = traces_replay (record {
  one_trace = c.a_text_is_of_one_trace.ensures;
  one_refusal = c.bytes_read_in_one_way.ensures.refused;
  apart = c.bytes_read_in_one_way.ensures.apart;
})
