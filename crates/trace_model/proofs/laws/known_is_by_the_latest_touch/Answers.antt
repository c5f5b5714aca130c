use Rattle.trace_model.proofs.Known.{known_tells, causes_tell, accessed_tells}
use Rattle.trace_model.proofs.laws.known_is_by_the_latest_touch.Goals as goal

pub returns-clause-known : goal.returns-clause-known
returns-clause-known c = known_tells

pub returns-clause-causes : goal.returns-clause-causes
returns-clause-causes c = causes_tell

pub returns-clause-accessed : goal.returns-clause-accessed
returns-clause-accessed c = accessed_tells
