use Rattle.std.proofs.Common.{◌≤◌, ◌<◌, ◌∙◌, arith, length, refl}
use Rattle.std.proofs.lemmas.List.Elements.{AllWithin-more_set}
use Rattle.std.proofs.lemmas.List.{length-set}
use Rattle.call_tracker.proofs.Searched.{missed-settled}
use Rattle.call_tracker.proofs.missed.Missed.settle.Goals as goal

pub loop-i-preserved : goal.loop-i-preserved
loop-i-preserved c =
    let before = c.loop-i.invariant in
    let least = c.min.ensures in
    let test = c.loop-i-test.true in
    let within : c.loop-i.i < length c.loop-i.self.places = omega (arith, test, before.whole) in
    record {
      low = before.low;
      count = length-set c.loop-i.self.places c.loop-i.i _ ∙ before.count;
      whole = length-set c.loop-i.self.places c.loop-i.i _ ∙ before.whole;
      settled = AllWithin-more_set c.loop-i.self.places c.loop-i.i _ within (λ miss. miss.depth ≤ c.loop-i.self.low) before.settled (omega (arith, least));
      missed = λ backs are. missed-settled backs c.loop-i.self _ c.loop-i.i _ within least refl refl (before.missed backs are);
    }
