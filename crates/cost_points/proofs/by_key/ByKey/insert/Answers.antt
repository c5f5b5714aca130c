use Rattle.std.proofs.Common.{◌+◌, [], ap, arith, get_or, map, subst, sym, ◌∙◌}
use Rattle.std.proofs.lemmas.List.{length-map}
use Rattle.cost_points.specs.Indexes.{AreIndexed}
use Rattle.cost_points.specs.Joined.{joined}
use Rattle.cost_points.specs.Keys.{IsRising, put}
use Rattle.cost_points.specs.Places.{IsGapOf}
use Rattle.cost_points.proofs.InBlocks.{put_new}
use Rattle.cost_points.proofs.Indexed.{indexed_more, more_at}
use Rattle.cost_points.proofs.by_key.ByKey.insert.Goals as goal

pub returns-clause-ok : goal.returns-clause-ok
returns-clause-ok g c change =
    let key = g.T.Keyed.key_of in
    let gap = subst (λ bs. IsGapOf g.T.Keyed.key_of bs (g.T.Keyed.key_of c.args.item) c.args.place.block c.args.place.at) (sym c.self.view_is) c.requires.gap in
    c.in_ok-placed.ensures.ok ∙ put_new key (key c.args.item) change c.args.item (map (λ b. b.items) c.self.inside.blocks.items) c.args.place.block c.args.place.at gap
    ∙ ap (λ bs. put key (key c.args.item) change c.args.item (joined bs)) c.self.view_is

pub returns-clause-place : goal.returns-clause-place
returns-clause-place g c =
    let key = g.T.Keyed.key_of in
    let gap = subst (λ bs. IsGapOf g.T.Keyed.key_of bs (g.T.Keyed.key_of c.args.item) c.args.place.block c.args.place.at) (sym c.self.view_is) c.requires.gap in
    more_at key (map (λ b. b.items) c.self.inside.blocks.items) (map (λ b. b.items) c.insert.new.blocks.items) c.args.item c.args.place.block c.args.place.at _ _
    (subst (λ bs. IsRising (map g.T.Keyed.key_of (joined bs))) (sym c.self.view_is) c.requires.rising) gap c.in_ok-placed.ensures.ok c.in_ok-placed.ensures.placed

pub invariant_of-self-2 : goal.invariant_of-self-2
invariant_of-self-2 g c =
    let bs = map (λ b. b.items) c.self.inside.blocks.items in
    let cs = map (λ b. b.items) c.insert.new.blocks.items in
    let place = c.args.place in
    let gap = subst (λ bs. IsGapOf g.T.Keyed.key_of bs (g.T.Keyed.key_of c.args.item) c.args.place.block c.args.place.at) (sym c.self.view_is) c.requires.gap in
    subst (AreIndexed cs (c.self.inside.count + 1)) (sym c.truncate.ensures.items)
    (indexed_more bs cs c.self.inside.count c.self.inside.starts.items place.block place.at c.args.item c.self.invariant gap.block.inside
    (omega (arith, gap.here.in_range, length-map (get_or bs place.block []) g.T.Keyed.key_of))
    c.insert.ensures.filled
    (omega (arith, c.insert.ensures.inside, length-map c.insert.new.blocks.items (λ b. b.items)))
    c.insert.ensures.before c.in_ok-placed.ensures.ok)
