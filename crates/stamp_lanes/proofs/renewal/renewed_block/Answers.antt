use Rattle.std.proofs.Common.{◌≡◌, ◌≤◌, ◌∙◌, arith, length, sym, ap}
use Rattle.stamp_lanes.proofs.Columns.{column_length}
use Rattle.stamp_lanes.proofs.Mapped.{splatted}
use Rattle.stamp_lanes.proofs.Renewed.{RenewedLanes, renewed_lanes}
use Rattle.stamp_lanes.proofs.renewal.renewed_block.Goals as goal

pub returns : goal.returns
returns g c = λ rs own own_class write write_class.
    let os = g.B.Block.lanes c.args.own in
    let ks = g.B.Block.lanes c.args.own_class in
    let ws = g.B.Block.lanes c.args.write in
    let ls = g.B.Block.lanes c.args.write_class in
    let zeros = g.B.Block.lanes c.splat-zero.result in
    let ones = g.B.Block.lanes c.splat-one.result in
    let twos = g.B.Block.lanes c.splat-two.result in
    let long : length rs ≡ 16 = sym (column_length _ rs os own) ∙ c.requires.sixteen in
    let width = c.requires.width in
    let fits0 : 0 ≤ g.B.Lane.Stamp.MAX = omega arith in
    let fits1 : 1 ≤ g.B.Lane.Stamp.MAX = omega arith in
    let zero : g.B.Lane.Stamp.number_of c.from_number.result ≡ 0 = ap g.B.Lane.Stamp.number_of c.from_number.ensures ∙ g.met.B.Lane.Stamp.number_back 0 fits0 in
    let one : g.B.Lane.Stamp.number_of c.from_number-2.result ≡ 1 = ap g.B.Lane.Stamp.number_of c.from_number-2.ensures ∙ g.met.B.Lane.Stamp.number_back 1 fits1 in
    let two : g.B.Lane.Stamp.number_of c.from_number-3.result ≡ 2 = ap g.B.Lane.Stamp.number_of c.from_number-3.ensures ∙ g.met.B.Lane.Stamp.number_back 2 width in
    let is : RenewedLanes rs os ks ws ls zeros ones twos = record {
      own = own;
      own_class = own_class;
      write = write;
      write_class = write_class;
      zeros_are = splatted rs 0 long c.splat-zero.ensures zero;
      ones_are = splatted rs 1 long c.splat-one.ensures one;
      twos_are = splatted rs 2 long c.splat-two.ensures two;
    } in
    renewed_lanes g.B.Lane.Stamp.MAX rs os ks ws ls zeros ones twos is c.requires.room _ _ _ _ _ _ _
    c.sum.ensures c.sum-first.ensures c.where_equal-at_least.ensures c.where_below-rank.ensures c.where_equal-rank_in_class.ensures c.sum-2.ensures c.where_equal.ensures
