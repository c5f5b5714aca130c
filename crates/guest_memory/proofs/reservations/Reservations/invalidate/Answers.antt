use Rattle.std.proofs.Common.{◌∙◌, ◌≤◌, ap, arith, length, take, drop}
use Rattle.std.proofs.lemmas.List.{take-append-le, length-append, length-drop, length-take}
use Rattle.guest_words.specs.declared.limits.TheConstants.{THREADS}
use Rattle.guest_memory.specs.Holders.{is_distinct, is_invalidated}
use Rattle.guest_memory.proofs.HeldWords.{is_distinct-kept}
use Rattle.guest_memory.proofs.reservations.Reservations.invalidate.Goals as goal

pub invariant_of-self : goal.invariant_of-self
invariant_of-self c =
    let old = c.args.self.now in
    let front = c.retain_valid-self.new.holders in
    let few : c.retain_valid-self.result ≤ THREADS = omega (arith, old.few, c.retain_valid-self.ensures.few, length-take old.count old.holders) in
    let within : c.retain_valid-self.result ≤ length front = omega (arith, c.retain_valid-self.auto.holders, c.retain_valid-self.ensures.few) in
    record {
      places = length-append front (drop old.count old.holders) ∙ omega (arith, c.retain_valid-self.auto.holders, length-take old.count old.holders, length-drop old.count old.holders, old.few, old.places);
      few = few;
      distinct =
          ap is_distinct (take-append-le c.retain_valid-self.result front (drop old.count old.holders) within ∙ c.retain_valid-self.ensures.kept)
          ∙ is_distinct-kept (is_invalidated c.args.invalidation) (take old.count old.holders) old.distinct;
    }
