use Rattle.cache_profile.proofs.Following.{may_steps}
use Rattle.cache_profile.proofs.profile.CacheProfileObserver.observe_steps.Goals as goal

pub take_steps-requires-clause-lives : goal.take_steps-requires-clause-lives
take_steps-requires-clause-lives g c = (may_steps g.K.Shaped.shape c.args.self.now c.args.tid c.args.count c.requires.some c.requires.may).0

pub take_steps-requires-clause-light : goal.take_steps-requires-clause-light
take_steps-requires-clause-light g c = (may_steps g.K.Shaped.shape c.args.self.now c.args.tid c.args.count c.requires.some c.requires.may).1
