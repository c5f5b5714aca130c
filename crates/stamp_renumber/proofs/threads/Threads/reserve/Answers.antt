use Rattle.stamp_renumber.proofs.Changed.{unchanged}
use Rattle.stamp_renumber.proofs.threads.Threads.reserve.Goals as goal

pub returns-then-has_room-clause-threads : goal.returns-then-has_room-clause-threads
returns-then-has_room-clause-threads g c = unchanged c.args.self.now.threads c.args.tid c.requires.lives
