use Rattle.std.proofs.Common.{inl, refl}
use Rattle.thread_sched.proofs.Read.{read_back}
use Rattle.thread_sched.proofs.laws.a_recording_is_read_as_its_turns.Goals as goal

pub returns-clause-same : goal.returns-clause-same
returns-clause-same c turns other fit fits is = read_back turns other fit fits is

pub returns-clause-read : goal.returns-clause-read
returns-clause-read c turns = inl refl
