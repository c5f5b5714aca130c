use Rattle.std.proofs.Common.{◌≡◌, ◌∙◌, ◌+◌, ◌-◌, ℕ, List, length, map, take, drop, ap, sym, subst, arith}
use Rattle.std.specs.Prelude.{◌==◌}
use Rattle.std.specs.Simd.Lanes.{chunk}
use Rattle.std.proofs.lemmas.List.{drop-map, take-map}
use Rattle.stamp_lanes.specs.Plain.{IsBulk, places}
use Rattle.shadow_core.proofs.RowParts.{part_read}
use Rattle.shadow_core.proofs.rows.read_row.Goals as goal

pub returns-clause-counts : goal.returns-clause-counts
returns-clause-counts g c =
    let f = g.S.Stamp.number_of in
    let n = length c.args.write.now in
    let a = c.args.at in
    let few : a + n - a ≡ n = omega arith in
    let own : map f (take (a + n - a) (drop a c.args.row.now)) ≡ chunk a n (map f c.args.row.now) =
    ap (λ k. map f (take k (drop a c.args.row.now))) few ∙ sym (take-map f n (drop a c.args.row.now)) ∙ ap (take n) (sym (drop-map f a c.args.row.now)) in
    subst (λ (os : List ℕ). IsBulk (f c.args.start) (places os (map f c.args.write.now) c.args.marks.now) c.bulk_read.result) own c.bulk_read.ensures.counts

pub returns-clause-stamps : goal.returns-clause-stamps
returns-clause-stamps g c = λ k.
    let n = length c.args.write.now in
    let a = c.args.at in
    part_read g.S.Stamp.number_of c.args.stamp a n (a + n - a) c.args.row.now c.bulk_read.new.own (c.bulk_read.result.old == 0) k (omega arith) c.requires.within c.bulk_read.ensures.filled
