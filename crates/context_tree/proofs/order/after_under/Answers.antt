use Rattle.std.proofs.Common.{◌≡◌, ◌≤◌, ℕ, ap, sym, subst, arith}
use Rattle.context_tree.specs.Links.{IsNextUnder}
use Rattle.context_tree.specs.Numbers.{above_of}
use Rattle.context_tree.proofs.Ordering.{IsClimbing, climbed, climbed_out, climbs_first, climbs_on}
use Rattle.context_tree.proofs.order.after_under.Goals as goal

pub loop-n-init : goal.loop-n-init
loop-n-init c = record {
  within = c.requires.within;
  climbs = λ contexts stands. climbs_first c.args.numbers.now contexts stands c.args.from (omega (arith, c.requires.within, stands.long));
}

pub returns-in-Some : goal.returns-in-Some
returns-in-Some c = λ contexts stands.
    let some : 1 ≤ c.loop-n.n = omega (arith, c.loop-n-test.true) in
    climbed c.args.numbers.now contexts stands c.args.from c.loop-n.n c.in-Some.next some (c.loop-n.invariant.climbs contexts stands)
    (subst (IsNextUnder c.args.numbers.now (above_of c.args.numbers.now c.loop-n.n) c.loop-n.n) c.in-Some.is (c.requires.linked.next c.loop-n.n some c.loop-n.invariant.within))

pub loop-n-smaller : goal.loop-n-smaller
loop-n-smaller c =
    let some : 1 ≤ c.loop-n.n = omega (arith, c.loop-n-test.true) in
    let falls = c.requires.linked.falls c.loop-n.n some c.loop-n.invariant.within in
    omega (arith, falls, ap (λ (p : ℕ × ℕ). p.0) c.place-n.ensures.here)

pub loop-n-preserved : goal.loop-n-preserved
loop-n-preserved c =
    let some : 1 ≤ c.loop-n.n = omega (arith, c.loop-n-test.true) in
    let falls = c.requires.linked.falls c.loop-n.n some c.loop-n.invariant.within in
    let above : c.place-n.result.0 ≡ above_of c.args.numbers.now c.loop-n.n = ap (λ (p : ℕ × ℕ). p.0) c.place-n.ensures.here in
    record {
      within = omega (arith, above, falls, c.loop-n.invariant.within);
      climbs = λ contexts stands.
          subst (IsClimbing c.args.numbers.now contexts stands c.args.from) (sym above)
          (climbs_on c.args.numbers.now contexts stands c.args.from c.loop-n.n some (c.loop-n.invariant.climbs contexts stands)
          (subst (IsNextUnder c.args.numbers.now (above_of c.args.numbers.now c.loop-n.n) c.loop-n.n) c.in_default.is (c.requires.linked.next c.loop-n.n some c.loop-n.invariant.within)));
    }

pub returns : goal.returns
returns c = λ contexts stands.
    let zero : c.loop-n.n ≡ 0 = omega (arith, c.loop-n-test.false) in
    climbed_out c.args.numbers.now contexts stands c.args.from (subst (IsClimbing c.args.numbers.now contexts stands c.args.from) zero (c.loop-n.invariant.climbs contexts stands))
