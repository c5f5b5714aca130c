use Rattle.std.proofs.Common.{rules}
use Rattle.guest_words.proofs.ReadyPlaces.{filled_push}
use Rattle.guest_words.proofs.ready.ReadyList.push.Goals as goal

pub invariant_of-self : goal.invariant_of-self
invariant_of-self c = filled_push _ _ _ c.self.invariant (search rules) (search rules)
