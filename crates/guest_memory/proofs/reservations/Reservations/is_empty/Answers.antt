use Rattle.std.proofs.Common.{◌≡◌, ◌≤◌, ℕ, List, arith, refl}
use Rattle.std.proofs.lemmas.Bool.Decides.{nat_tests}
use Rattle.guest_memory.specs.Holders.{held_in}
use Rattle.guest_memory.specs.Reserved.{nothing_reserved}
use Rattle.guest_memory.specs.ReservedBy.{reserved_by}
use Rattle.guest_memory.proofs.HeldWords.{held_by_none, none_held}
use Rattle.guest_memory.proofs.reservations.Reservations.is_empty.Goals as goal

pub returns : goal.returns
unfolding reserved_by
returns c =
    let self = c.args.self.now in (
      λ none.
          let few : self.count ≤ 0 = grind (arith, nat_tests, none) in
          none_held (λ (hs : List (ℕ × ℕ)). held_in hs ≡ nothing_reserved) self.count self.holders few refl,
      λ none.
          let few : self.count ≤ 0 = held_by_none self.count self.holders (omega (arith, self.places, self.few)) none in
          grind (arith, nat_tests, few),
    )
