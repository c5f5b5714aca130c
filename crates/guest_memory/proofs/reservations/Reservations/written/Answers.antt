use Rattle.std.proofs.Common.{◌∙◌, ◌≡◌, ℕ, List, [], ap, arith, refl, take}
use Rattle.guest_memory.specs.Holders.{held_in}
use Rattle.guest_memory.specs.Reserved.{after_write}
use Rattle.guest_memory.specs.ReservedBy.{reserved_by}
use Rattle.guest_memory.proofs.HeldWords.{after_loss, none_held}
use Rattle.guest_memory.proofs.reservations.Reservations.written.Goals as goal

pub returns-then-self-gt0 : goal.returns-then-self-gt0
unfolding reserved_by
returns-then-self-gt0 c =
    let old = c.args.self.now in
    ap held_in c.invalidate.ensures ∙ after_loss (take old.count old.holders) c.args.by c.args.first c.args.count old.distinct

pub returns-else-self-gt0 : goal.returns-else-self-gt0
unfolding reserved_by
returns-else-self-gt0 c =
    let old = c.args.self.now in
    none_held (λ (hs : List (ℕ × ℕ)). held_in hs ≡ after_write (held_in hs) c.args.by c.args.first c.args.count) old.count old.holders (omega (arith, c.if-self-gt0.false))
    (after_loss [] c.args.by c.args.first c.args.count refl)
