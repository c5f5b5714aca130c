use Rattle.std.proofs.Common.{ℕ, List, ◌≡◌, ◌≤◌, ap, arith, length, map, rules, set, subst, sym, ◌∙◌}
use Rattle.std.proofs.lemmas.List.{map-set}
use Rattle.std.proofs.lemmas.List.Edits.{length-insert}
use Rattle.cost_points.specs.Joined.{IsFilled, joined}
use Rattle.cost_points.proofs.InBlocks.{filled_set, item_added, item_stands, read_block, set_same}
use Rattle.cost_points.specs.Places.{before}
use Rattle.cost_points.proofs.Indexed.{before_set}
use Rattle.cost_points.proofs.blocks.insert.Goals as goal

pub returns-in_err-insert-clause-err : goal.returns-in_err-insert-clause-err
returns-in_err-insert-clause-err g c =
    let same : joined (map (λ v. v.items) (set c.shorten.new.blocks.items c.in_ok-place.place.block c.insert.new.self)) ≡ joined (map (λ v. v.items) c.args.blocks.now.items) =
    ap joined (set_same (λ v. v.items) c.shorten.new.blocks.items c.in_ok-place.place.block c.index_mut-block.result.now c.insert.new.self c.in_ok-place.ensures.block c.index_mut-block.ensures.value c.in_err-insert.ensures.items)
    ∙ c.shorten.ensures.items
    in
    search (rules, same)

pub returns-in_err-insert-clause-filled : goal.returns-in_err-insert-clause-filled
returns-in_err-insert-clause-filled g c =
    subst IsFilled (sym (set_same (λ v. v.items) c.shorten.new.blocks.items c.in_ok-place.place.block c.index_mut-block.result.now c.insert.new.self c.in_ok-place.ensures.block c.index_mut-block.ensures.value c.in_err-insert.ensures.items))
    c.shorten.ensures.filled

pub returns-clause-ok : goal.returns-clause-ok
returns-clause-ok g c =
    item_added (λ v. v.items) c.shorten.new.blocks.items c.in_ok-place.place.block c.in_ok-place.place.at c.index_mut-block.result.now c.insert.new.self c.args.item c.in_ok-place.ensures.block c.index_mut-block.ensures.value c.in_ok-insert.ensures.items
    ∙ c.in_ok-place.ensures.same c.args.item

pub returns-clause-placed : goal.returns-clause-placed
returns-clause-placed g c =
    item_stands (λ v. v.items) c.shorten.new.blocks.items c.in_ok-place.place.block c.in_ok-place.place.at c.index_mut-block.result.now c.insert.new.self c.args.item c.in_ok-place.ensures.block c.index_mut-block.ensures.value c.in_ok-place.ensures.at
    c.in_ok-insert.ensures.items

pub returns-clause-filled : goal.returns-clause-filled
returns-clause-filled g c =
    subst IsFilled (sym (map-set (λ v. v.items) c.shorten.new.blocks.items c.in_ok-place.place.block c.insert.new.self))
    (filled_set (map (λ v. v.items) c.shorten.new.blocks.items) c.in_ok-place.place.block c.insert.new.self.items c.shorten.ensures.filled
    (omega (
      arith,
      ap length c.in_ok-insert.ensures.items,
      length-insert c.index_mut-block.result.now.items c.in_ok-place.place.at c.args.item
          (subst (λ ys. c.in_ok-place.place.at ≤ length ys) (sym (read_block (λ v. v.items) c.shorten.new.blocks.items c.in_ok-place.place.block c.index_mut-block.result.now c.in_ok-place.ensures.block c.index_mut-block.ensures.value)) c.in_ok-place.ensures.at),
    )))

kept : {V A : Type 0} (f : V → List A) (vs was : List V) (b p k : ℕ) (v : V) → p ≤ b → k ≤ p → before k (map f vs) ≡ before k (map f was) → before k (map f (set vs b v)) ≡ before k (map f was)
kept f vs was b p k v later low same = ap (before k) (map-set f vs b v) ∙ before_set (map f vs) b k (f v) (omega (arith, later, low)) ∙ same

pub returns-in_err-insert-clause-before : goal.returns-in_err-insert-clause-before
returns-in_err-insert-clause-before g c k low =
    kept (λ v. v.items) c.shorten.new.blocks.items c.args.blocks.now.items c.in_ok-place.place.block c.args.place.block k c.insert.new.self c.in_ok-place.ensures.not_before low (c.shorten.ensures.before k low)

pub returns-clause-before : goal.returns-clause-before
returns-clause-before g c k low =
    kept (λ v. v.items) c.shorten.new.blocks.items c.args.blocks.now.items c.in_ok-place.place.block c.args.place.block k c.insert.new.self c.in_ok-place.ensures.not_before low (c.shorten.ensures.before k low)
