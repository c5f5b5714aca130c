use Rattle.cost_points.proofs.Indexed.{there_already}
use Rattle.cost_points.proofs.by_key.ByKey.find_or_insert.Goals as goal

pub returns-in-Ok-clause-ok : goal.returns-in-Ok-clause-ok
returns-in-Ok-clause-ok g c =
    there_already g.T.Keyed.key_of c.args.self.now c.key.result (g.T.Keyed.key_of c.args.item) c.key.ensures c.in-Ok.place.block c.in-Ok.place.at c.args.item c.requires.rising c.in-Ok.ensures
