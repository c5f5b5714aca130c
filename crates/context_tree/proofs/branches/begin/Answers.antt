use Rattle.std.proofs.Common.{◌≡◌, ◌≤◌, ◌<◌, ◌++◌, ◌∷◌, [], ℕ, List, length, ap, sym, subst, ◌∙◌, arith}
use Rattle.std.proofs.lemmas.List.{map-append}
use Rattle.cost_points.specs.declared.point.Point.{Point}
use Rattle.context_tree.specs.Links.{IsLinked}
use Rattle.context_tree.specs.Numbers.{numbered}
use Rattle.context_tree.specs.Private.Ways.{PointList, lists}
use Rattle.context_tree.proofs.Beginning.{place_added, place_there, points_added, points_there}
use Rattle.context_tree.proofs.branches.begin.Goals as goal

pub returns-then-len-clause-stands : goal.returns-then-len-clause-stands
returns-then-len-clause-stands c = λ contexts stands. c.in_ok-number.ensures.stands contexts stands

pub returns-then-len-clause-number : goal.returns-then-len-clause-number
returns-then-len-clause-number c = λ contexts stands. c.in_ok-number.ensures.number contexts stands

pub returns-then-len-clause-points : goal.returns-then-len-clause-points
returns-then-len-clause-points c = λ contexts stands.
    let wanted = numbered contexts c.args.above ++ c.args.entry ∷ [] in
    let after = c.in_ok-number.ensures.stands contexts stands in
    let more : length contexts < length c.number_of.new.self = omega (arith, stands.long, c.if-len.true, c.len.ensures, c.len-2.ensures.value, c.requires.long, ap length c.reserve.ensures.items, c.reserve.new.self.ok.0) in
    let pushed : c.push.new.self.items ≡ c.reserve.new.self.items ++ c.new.result ∷ [] = rw c.unwrap.ensures at c.push.ensures.items in
    let grown : lists c.push.new.self.items ≡ lists c.args.points.now.items ++ [] ∷ [] =
    ap lists (pushed ∙ ap (λ (xs : List PointList). xs ++ c.new.result ∷ []) c.reserve.ensures.items)
    ∙ (map-append (λ (p : PointList). p.points) c.args.points.now.items (c.new.result ∷ [])
    ∙ ap (λ (ps : List Point). lists c.args.points.now.items ++ ps ∷ []) c.new.ensures) in
    points_added contexts wanted (lists c.args.points.now.items) (lists c.push.new.self.items) (length c.number_of.new.self) after.long more grown

pub returns-then-len-clause-linked : goal.returns-then-len-clause-linked
returns-then-len-clause-linked c =
    let more : length c.args.numbers.now < length c.number_of.new.self = omega (arith, c.if-len.true, c.len.ensures, c.len-2.ensures.value, c.requires.long, ap length c.reserve.ensures.items, c.reserve.new.self.ok.0) in
    let added = place_added c.args.numbers.now c.number_of.new.self (c.args.above, c.args.entry) c.in_ok-number.ensures.places more in
    let before = subst (IsLinked c.args.numbers.now) (sym c.reserve-2.ensures.items) c.requires.linked in
    subst (λ (places : List (ℕ × ℕ)). IsLinked places c.add_link.new.links.items) (sym added) (c.add_link.ensures c.args.numbers.now c.args.entry before c.requires.within)

pub returns-else-len-clause-stands : goal.returns-else-len-clause-stands
returns-else-len-clause-stands c = λ contexts stands. c.in_ok-number.ensures.stands contexts stands

pub returns-else-len-clause-number : goal.returns-else-len-clause-number
returns-else-len-clause-number c = λ contexts stands. c.in_ok-number.ensures.number contexts stands

pub returns-else-len-clause-points : goal.returns-else-len-clause-points
returns-else-len-clause-points c = λ contexts stands.
    let wanted = numbered contexts c.args.above ++ c.args.entry ∷ [] in
    let after = c.in_ok-number.ensures.stands contexts stands in
    let few : length c.number_of.new.self ≤ length contexts = omega (arith, stands.long, c.if-len.false, c.len.ensures, c.len-2.ensures.value, c.requires.long, ap length c.reserve.ensures.items, c.reserve.new.self.ok.0) in
    ap lists c.reserve.ensures.items ∙ points_there contexts wanted (lists c.args.points.now.items) (length c.number_of.new.self) after.long few

pub returns-else-len-clause-linked : goal.returns-else-len-clause-linked
returns-else-len-clause-linked c =
    let few : length c.number_of.new.self ≤ length c.args.numbers.now = omega (arith, c.if-len.false, c.len.ensures, c.len-2.ensures.value, c.requires.long, ap length c.reserve.ensures.items, c.reserve.new.self.ok.0) in
    let there = place_there c.args.numbers.now c.number_of.new.self (c.args.above, c.args.entry) c.in_ok-number.ensures.places few in
    let before = subst (IsLinked c.args.numbers.now) (sym c.reserve-2.ensures.items) c.requires.linked in
    subst (λ (places : List (ℕ × ℕ)). IsLinked places c.reserve-2.new.self.items) (sym there) before
