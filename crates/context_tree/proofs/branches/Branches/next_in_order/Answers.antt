use Rattle.std.proofs.Common.{◌≡◌, ◌∙◌, ◌≤◌, ◌<◌, length, ap, sym, subst, arith}
use Rattle.std.proofs.lemmas.List.{get_or_default}
use Rattle.context_tree.specs.declared.order.Links.{Links}
use Rattle.context_tree.specs.Contexts.{contexts}
use Rattle.context_tree.specs.Links.{IsNextUnder, links_at, no_links}
use Rattle.context_tree.specs.Branches.{KeptBranches, BranchesStandFor}
use Rattle.context_tree.proofs.Ordering.{follows_child, follows_others}
use Rattle.context_tree.proofs.branches.Branches.next_in_order.Goals as goal

pub returns-in-Some : goal.returns-in-Some
returns-in-Some c = λ past stands.
    let s = subst (λ (k : KeptBranches). BranchesStandFor k past) (sym c.self.view_is) stands in
    let within : c.args.n ≤ length (contexts past) = omega (arith, c.requires.within, stands.contexts_are.long) in
    let in_links : c.args.n < length c.self.inside.links.items = omega (arith, within, s.links_are.long, s.contexts_are.long) in
    let links_is : c.index.result.now ≡ links_at c.self.inside.links.items c.args.n =
    c.index.ensures ∙ get_or_default c.self.inside.links.items c.args.n c.index.result.now no_links in_links
    in
    follows_child _ (contexts past) s.contexts_are c.args.n c.in-Some.child within
    (subst (IsNextUnder c.self.inside.numbers c.args.n 0) (ap (λ (x : Links). x.first_child) (sym links_is) ∙ c.in-Some.is) (s.links_are.first c.args.n (omega (arith, within, s.contexts_are.long))))

pub returns-in-None : goal.returns-in-None
returns-in-None c = λ past stands.
    let s = subst (λ (k : KeptBranches). BranchesStandFor k past) (sym c.self.view_is) stands in
    let within : c.args.n ≤ length (contexts past) = omega (arith, c.requires.within, stands.contexts_are.long) in
    let in_links : c.args.n < length c.self.inside.links.items = omega (arith, within, s.links_are.long, s.contexts_are.long) in
    let links_is : c.index.result.now ≡ links_at c.self.inside.links.items c.args.n =
    c.index.ensures ∙ get_or_default c.self.inside.links.items c.args.n c.index.result.now no_links in_links
    in
    follows_others _ (contexts past) s.contexts_are c.args.n c.after_under.result within
    (subst (IsNextUnder c.self.inside.numbers c.args.n 0) (ap (λ (x : Links). x.first_child) (sym links_is) ∙ c.in-None.is) (s.links_are.first c.args.n (omega (arith, within, s.contexts_are.long))))
    (c.after_under.ensures (contexts past) s.contexts_are)
