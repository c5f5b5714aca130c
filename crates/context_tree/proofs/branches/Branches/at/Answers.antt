use Rattle.std.proofs.Common.{◌≡◌, ◌∙◌, ◌<◌, ◌≤◌, ◌-◌, ◌∷◌, length, get_or, [], ap, sym, subst, arith, length-append}
use Rattle.std.proofs.lemmas.List.{get_or_default, length-map}
use Rattle.context_tree.specs.declared.order.Links.{Links}
use Rattle.context_tree.specs.Contexts.{contexts}
use Rattle.context_tree.specs.Links.{links_at, no_links}
use Rattle.context_tree.specs.Numbers.{numbered}
use Rattle.context_tree.specs.Branches.{KeptBranches, BranchesStandFor}
use Rattle.context_tree.specs.Private.Ways.{PointList, lists}
use Rattle.context_tree.proofs.Climbing.{there_is}
use Rattle.context_tree.proofs.Following.{as_many, points_at}
use Rattle.context_tree.proofs.Listed.{depth_is}
use Rattle.context_tree.proofs.branches.Branches.at.Goals as goal

pub returns : goal.returns
returns c = λ past stands.
    let s = subst (λ (k : KeptBranches). BranchesStandFor k past) (sym c.self.view_is) stands in
    let many = as_many _ past s in
    let within : c.args.n ≤ length (contexts past) = omega (arith, c.requires.within, stands.contexts_are.long) in
    let in_links : c.args.n < length c.self.inside.links.items = omega (arith, within, s.links_are.long, s.contexts_are.long) in
    let links_is : c.index.result.now ≡ links_at c.self.inside.links.items c.args.n =
    c.index.ensures ∙ get_or_default c.self.inside.links.items c.args.n c.index.result.now no_links in_links
    in
    let depth : (links_at c.self.inside.links.items c.args.n).depth ≡ length (numbered (contexts past) c.args.n) =
    depth_is _ (contexts past) c.self.inside.links.items s.contexts_are s.links_are c.args.n c.args.n (omega arith) within
    in
    let context = c.place-entry.ensures.context (contexts past) s.contexts_are in
    let inside : c.args.n - 1 < length c.self.inside.points.items = omega (arith, c.requires.some, within, many, s.contexts_are.long, length-map c.self.inside.points.items (λ (p : PointList). p.points)) in
    let read : c.in_ok-points.points.items ≡ get_or (lists c.self.inside.points.items) (c.args.n - 1) [] =
    c.in_ok-points.ensures ∙ there_is c.self.inside.points.items (c.args.n - 1) inside c.index-2.result.now c.index-2.result.now c.index-2.ensures
    in
    record {
      depth_is = omega (arith, ap (λ (x : Links). x.depth) links_is, depth, ap length context, length-append (numbered (contexts past) c.place-entry.result.0) (c.place-entry.result.1 ∷ []));
      front = numbered (contexts past) c.place-entry.result.0;
      entry_is = context;
      points_are = read ∙ points_at _ past s c.args.n c.requires.some within;
    }
