use Rattle.std.proofs.Common.{◌≡◌, ◌≤◌, ◌∙◌, arith, length, nat_eq, nat_lt, refl, sym, ap}
use Rattle.stamp_lanes.proofs.Columns.{column_length}
use Rattle.stamp_lanes.proofs.Mapped.{chosen_length, splatted}
use Rattle.stamp_lanes.proofs.Read.{BlockLanes, kernel_count, old_count, plain_count, thread_count, untouched_count}
use Rattle.stamp_lanes.proofs.bulk.read_block.Goals as goal

pub count_equal-requires : goal.count_equal-requires
count_equal-requires g c = chosen_length nat_lt (g.B.Block.lanes c.args.own) _ _ _ _ c.requires c.where_below-later.ensures

pub count_below-requires-3 : goal.count_below-requires-3
count_below-requires-3 g c = chosen_length nat_eq (g.B.Block.lanes c.args.own) _ _ _ _ c.requires c.where_equal-touched.ensures

pub returns : goal.returns
returns g c = λ ps own write mark.
    let start = g.B.Lane.Stamp.number_of c.args.start in
    let os = g.B.Block.lanes c.args.own in
    let ws = g.B.Block.lanes c.args.write in
    let ms = g.B.Block.lanes c.args.marks in
    let zeros = g.B.Block.lanes c.splat-zero.result in
    let starts = g.B.Block.lanes c.splat-starts.result in
    let long : length ps ≡ 16 = sym (column_length _ ps os own) ∙ c.requires in
    let fits : 0 ≤ g.B.Lane.Stamp.MAX = omega arith in
    let zero : g.B.Lane.Stamp.number_of c.from_number.result ≡ 0 = ap g.B.Lane.Stamp.number_of c.from_number.ensures ∙ g.met.B.Lane.Stamp.number_back 0 fits in
    let is : BlockLanes start ps os ws ms zeros starts = record {
      own = own;
      write = write;
      mark = mark;
      zeros_are = splatted ps 0 long c.splat-zero.ensures zero;
      starts_are = splatted ps start long c.splat-starts.ensures refl;
    } in
    record {
      plain = plain_count start ps os ws ms zeros starts is _ _ c.where_below-later.ensures c.count_equal.ensures;
      thread = thread_count start ps os ws ms zeros starts is _ _ c.where_equal-by_thread.ensures c.count_below.ensures;
      kernel = kernel_count start ps os ws ms zeros starts is _ _ c.where_equal-by_kernel.ensures c.count_below-2.ensures;
      untouched = untouched_count start ps os ws ms zeros starts is _ c.count_equal-2.ensures;
      old = old_count start ps os ws ms zeros starts is _ _ c.where_equal-touched.ensures c.count_below-3.ensures;
    }
