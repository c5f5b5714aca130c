use Rattle.std.proofs.Common.{◌≡◌, true, false, leb, map, sym, arith, rules}
use Rattle.std.specs.List.Sorted.{IsPartitionPoint}
use Rattle.std.proofs.lemmas.List.{length-map}
use Rattle.std.proofs.lemmas.List.Sorted.{IsPartitionPoint-from_clause, IsPartitionedBy-leb}
use Rattle.stamp_renumber.proofs.Sorted.{Parts, class_at, parted}
use Rattle.stamp_renumber.proofs.starts.class_of.Goals as goal

pub returns : goal.returns
returns g c =
    let f = g.S.Stamp.number_of in
    let xs = c.args.starts.now in
    let n = c.number-n.result in
    let point : IsPartitionPoint (λ y. leb (f y) n ≡ true) (λ y. leb (f y) n ≡ false) xs c.partition_point.result =
    IsPartitionPoint-from_clause (λ y. leb (f y) n) xs c.partition_point.result c.partition_point.ensures.partitioned (IsPartitionedBy-leb f xs n c.requires.sorted) (λ a r f' k. search rules)
    in
    let parts : Parts (map f xs) c.partition_point.result n = parted f xs c.partition_point.result n c.partition_point.ensures.bound point in
    rw (← c.number-n.ensures.value) (record {
      value = sym (class_at (map f xs) c.partition_point.result n (omega (arith, length-map xs f, c.partition_point.ensures.bound)) parts.low parts.high);
      within = c.partition_point.ensures.bound;
      below = parts.low;
      above = λ i low lt. parts.high i low (omega (arith, lt, length-map xs f));
    })
