use Rattle.std.proofs.Common.{length, ap, arith}
use Rattle.std.proofs.lemmas.List.{length-map}
use Rattle.stamp_renumber.proofs.Words.{zeros_long}
use Rattle.stamp_renumber.proofs.rows.WorkRows.renew_unwritten.Goals as goal

pub renew_row-requires-clause-lengths : goal.renew_row-requires-clause-lengths
renew_row-requires-clause-lengths g c =
    let f = g.S.Stamp.number_of in
    let rows = c.self.inside in
    let own = length-map rows.own_classes.items f in
    let write = length-map rows.write_classes.items f in
    let result = length-map rows.renewed.items f in
    let zero = length-map rows.untouched.items f in
    let zeros = ap length c.self.invariant.zero in
    let a = ap length c.deref.ensures.value in
    let b = ap length c.deref_mut.ensures.value in
    let d = ap length c.deref_mut-2.ensures.value in
    let e = ap length c.deref_mut-3.ensures.value in
    (omega (arith, zeros_long), omega (arith, zeros_long), omega arith, omega arith)
