use Rattle.std.proofs.Common.{◌<◌, ◌≤◌, ◌+◌, ◌-◌, ◌/◌, arith, length, map, rules, subst, sym}
use Rattle.std.proofs.lemmas.List.{length-map}
use Rattle.cost_points.proofs.InBlocks.{filled_at, first_key, halved, read_block}
use Rattle.cost_points.proofs.blocks.block_of.Goals as goal

pub index-requires : goal.index-requires
index-requires g c =
    let bs = map (λ v. v.items) c.args.blocks.now in
    let middle = c.halve.low + (c.halve.high - c.halve.low) / 2 in
    let inside : c.halve.low + (c.halve.high - c.halve.low) / 2 < length c.args.blocks.now = omega (arith, c.halve-test.true, c.halve.invariant.inside, length-map c.args.blocks.now (λ v. v.items)) in
    let some = filled_at bs middle c.requires.filled (omega (arith, c.halve-test.true)) (omega (arith, inside, length-map c.args.blocks.now (λ v. v.items))) in
    let own : 1 ≤ length c.index-blocks-middle.result.items = subst (λ ys. 1 ≤ length ys) (sym (read_block (λ v. v.items) c.args.blocks.now middle c.index-blocks-middle.result inside c.index-blocks-middle.is)) some in
    search (rules, own)

pub halve-preserved-then-key : goal.halve-preserved-then-key
halve-preserved-then-key g c =
    let bs = map (λ v. v.items) c.args.blocks.now in
    let middle = c.halve.low + (c.halve.high - c.halve.low) / 2 in
    let inside : c.halve.low + (c.halve.high - c.halve.low) / 2 < length c.args.blocks.now = omega (arith, c.halve-test.true, c.halve.invariant.inside, length-map c.args.blocks.now (λ v. v.items)) in
    let some = filled_at bs middle c.requires.filled (omega (arith, c.halve-test.true)) (omega (arith, inside, length-map c.args.blocks.now (λ v. v.items))) in
    let own : 1 ≤ length c.index-blocks-middle.result.items = subst (λ ys. 1 ≤ length ys) (sym (read_block (λ v. v.items) c.args.blocks.now middle c.index-blocks-middle.result inside c.index-blocks-middle.is)) some in
    record {
      apart = omega (arith, c.halve-test.true);
      inside = c.halve.invariant.inside;
      reached = λ above d.
          omega (
            arith,
            c.if-key.true,
            c.key.ensures,
            first_key (λ v. v.items) g.T.Keyed.key_of c.args.blocks.now middle c.index-blocks-middle.result c.index.result.now d inside c.index-blocks-middle.is own c.index.ensures,
          );
      beyond = c.halve.invariant.beyond;
    }

pub halve-preserved : goal.halve-preserved
halve-preserved g c =
    let bs = map (λ v. v.items) c.args.blocks.now in
    let middle = c.halve.low + (c.halve.high - c.halve.low) / 2 in
    let inside : c.halve.low + (c.halve.high - c.halve.low) / 2 < length c.args.blocks.now = omega (arith, c.halve-test.true, c.halve.invariant.inside, length-map c.args.blocks.now (λ v. v.items)) in
    let some = filled_at bs middle c.requires.filled (omega (arith, c.halve-test.true)) (omega (arith, inside, length-map c.args.blocks.now (λ v. v.items))) in
    let own : 1 ≤ length c.index-blocks-middle.result.items = subst (λ ys. 1 ≤ length ys) (sym (read_block (λ v. v.items) c.args.blocks.now middle c.index-blocks-middle.result inside c.index-blocks-middle.is)) some in
    record {
      apart = omega (arith, c.halve-test.true);
      inside = omega (arith, inside, length-map c.args.blocks.now (λ v. v.items));
      reached = c.halve.invariant.reached;
      beyond = λ more d.
          omega (
            arith,
            c.if-key.false,
            c.key.ensures,
            first_key (λ v. v.items) g.T.Keyed.key_of c.args.blocks.now middle c.index-blocks-middle.result c.index.result.now d inside c.index-blocks-middle.is own c.index.ensures,
          );
    }

pub returns : goal.returns
returns g c =
    halved g.T.Keyed.key_of (map (λ v. v.items) c.args.blocks.now) c.args.key c.halve.low c.halve.high c.requires.rising c.requires.filled c.halve.invariant
    (omega (arith, c.halve-test.false, c.halve.invariant.apart))
