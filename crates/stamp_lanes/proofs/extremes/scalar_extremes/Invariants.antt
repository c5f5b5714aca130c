use Rattle.std.proofs.Common.{◌≡◌, map, take, min, max}
use Rattle.std.specs.List.{fold}
use Rattle.stamp_lanes.proofs.extremes.scalar_extremes.Given as goal

abbrev pub invariant-loop-stamp : goal.invariant-loop-stamp
invariant-loop-stamp g l = record {
  least : g.S.Stamp.number_of l.low ≡ fold min (g.S.Stamp.number_of l.fn.least) (map g.S.Stamp.number_of (take l.stamp-index l.stamps));
  greatest : g.S.Stamp.number_of l.high ≡ fold max (g.S.Stamp.number_of l.fn.greatest) (map g.S.Stamp.number_of (take l.stamp-index l.stamps));
}
