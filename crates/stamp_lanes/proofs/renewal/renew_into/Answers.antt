use Rattle.std.proofs.Common.{◌≡◌, ℕ, ◌≤◌, ◌<◌, ◌+◌, ◌*◌, ◌∙◌, ap, sym, arith, length, map, take, get_or, subst}
use Rattle.std.proofs.lemmas.List.{length-map, map-set, take_all}
use Rattle.stamp_lanes.specs.Plain.{Renewal, renewals, renewed}
use Rattle.stamp_lanes.proofs.Columns.{all_renewals, as_many, one_renewal}
use Rattle.stamp_lanes.proofs.Loaded.{number_at}
use Rattle.stamp_lanes.proofs.Renewed.{renewed_fits}
use Rattle.stamp_lanes.proofs.Written.{one_written}
use Rattle.stamp_lanes.proofs.renewal.renew_into.Goals as goal

pub renewed_number-requires : goal.renewed_number-requires
renewed_number-requires g c =
    let at = c.loop-at.at in
    let lt : at < length c.args.own.now = c.loop-at-test.true in
    let one = c.requires.lengths.0 in
    let two = c.requires.lengths.1 in
    let lt2 : at < length c.args.own_class.now = omega arith in
    let ks = map g.B.Lane.Stamp.number_of c.args.own_class.now in
    let size : length ks ≡ length c.args.own_class.now = length-map c.args.own_class.now g.B.Lane.Stamp.number_of in
    let lt3 : at < length ks = omega arith in
    let is = number_at g.B.Lane.Stamp.number_of c.args.own_class.now at c.index-own_class-at.result lt2 c.index-own_class-at.is in
    subst (λ (n : ℕ). 3 * n + 2 ≤ g.B.Lane.Stamp.MAX) is (c.requires.room at 0 lt3)

pub from_number-requires : goal.from_number-requires
from_number-requires g c =
    let number = g.B.Lane.Stamp.number_of in
    let r : Renewal = record { own = number c.index-own-at.result; own_class = number c.index-own_class-at.result; write = number c.index-write-at.result; write_class = number c.index-write_class-at.result } in
    let at = c.loop-at.at in
    let lt : at < length c.args.own.now = c.loop-at-test.true in
    let one = c.requires.lengths.0 in
    let two = c.requires.lengths.1 in
    let lt2 : at < length c.args.own_class.now = omega arith in
    let ks = map number c.args.own_class.now in
    let size : length ks ≡ length c.args.own_class.now = length-map c.args.own_class.now number in
    let lt3 : at < length ks = omega arith in
    let is = number_at number c.args.own_class.now at c.index-own_class-at.result lt2 c.index-own_class-at.is in
    rw c.renewed_number.ensures (renewed_fits g.B.Lane.Stamp.MAX r (subst (λ (n : ℕ). 3 * n + 2 ≤ g.B.Lane.Stamp.MAX) is (c.requires.room at 0 lt3)))

pub loop-at-preserved : goal.loop-at-preserved
loop-at-preserved g c =
    let number = g.B.Lane.Stamp.number_of in
    let at = c.loop-at.at in
    let lt : at < length c.args.own.now = c.loop-at-test.true in
    let one = c.requires.lengths.0 in
    let two = c.requires.lengths.1 in
    let three = c.requires.lengths.2 in
    let four = c.requires.lengths.3 in
    let kept = c.loop-at.auto.into in
    let kept2 = c.renew_blocks-at.ensures.length in
    let lt2 : at < length c.args.own_class.now = omega arith in
    let lt3 : at < length c.args.write.now = omega arith in
    let lt4 : at < length c.args.write_class.now = omega arith in
    let os = map number c.args.own.now in
    let ks = map number c.args.own_class.now in
    let ws = map number c.args.write.now in
    let ls = map number c.args.write_class.now in
    let rs = renewals os ks ws ls in
    let into = map number c.loop-at.into in
    let into_size : length into ≡ length c.loop-at.into = length-map c.loop-at.into number in
    let many : length rs ≡ length c.args.own.now = as_many number c.args.own.now c.args.own_class.now c.args.write.now c.args.write_class.now c.args.into.now c.requires.lengths in
    let columns = all_renewals number c.args.own.now c.args.own_class.now c.args.write.now c.args.write_class.now c.args.into.now c.requires.lengths in
    let inside : at < length rs = omega arith in
    let same : length rs ≡ length into = omega arith in
    let r : Renewal = record { own = number c.index-own-at.result; own_class = number c.index-own_class-at.result; write = number c.index-write-at.result; write_class = number c.index-write_class-at.result } in
    let blank : Renewal = record { own = 0; own_class = 0; write = 0; write_class = 0 } in
    let is : get_or rs at blank ≡ r = one_renewal os ks ws ls rs columns at r.own r.own_class r.write r.write_class inside
    (number_at number c.args.own.now at c.index-own-at.result lt c.index-own-at.is)
    (number_at number c.args.own_class.now at c.index-own_class-at.result lt2 c.index-own_class-at.is)
    (number_at number c.args.write.now at c.index-write-at.result lt3 c.index-write-at.is)
    (number_at number c.args.write_class.now at c.index-write_class-at.result lt4 c.index-write_class-at.is) in
    let size : length ks ≡ length c.args.own_class.now = length-map c.args.own_class.now number in
    let lt5 : at < length ks = omega arith in
    let class = number_at number c.args.own_class.now at c.index-own_class-at.result lt2 c.index-own_class-at.is in
    let fits : c.renewed_number.result ≤ g.B.Lane.Stamp.MAX =
    rw c.renewed_number.ensures (renewed_fits g.B.Lane.Stamp.MAX r (subst (λ (n : ℕ). 3 * n + 2 ≤ g.B.Lane.Stamp.MAX) class (c.requires.room at 0 lt5))) in
    let made = ap number c.from_number.ensures ∙ (g.met.B.Lane.Stamp.number_back c.renewed_number.result fits ∙ c.renewed_number.ensures) in
    record {
      within = omega arith;
      written = ap (take (at + 1)) (map-set number c.loop-at.into at c.from_number.result)
          ∙ one_written renewed rs into (number c.from_number.result) at r blank inside same c.loop-at.invariant.written is made;
    }

pub returns : goal.returns
returns g c =
    let number = g.B.Lane.Stamp.number_of in
    let at = c.loop-at.at in
    let done : length c.args.own.now ≤ at = c.loop-at-test.false in
    let one = c.requires.lengths.0 in
    let kept = c.loop-at.auto.into in
    let kept2 = c.renew_blocks-at.ensures.length in
    let rs = renewals (map number c.args.own.now) (map number c.args.own_class.now) (map number c.args.write.now) (map number c.args.write_class.now) in
    let into = map number c.loop-at.into in
    let into_size : length into ≡ length c.loop-at.into = length-map c.loop-at.into number in
    let many : length rs ≡ length c.args.own.now = as_many number c.args.own.now c.args.own_class.now c.args.write.now c.args.write_class.now c.args.into.now c.requires.lengths in
    let all : length rs ≤ at = omega arith in
    let all2 : length into ≤ at = omega arith in
    sym (take_all at into all2) ∙ (c.loop-at.invariant.written ∙ ap (map renewed) (take_all at rs all))
