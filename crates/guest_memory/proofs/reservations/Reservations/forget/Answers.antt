use Rattle.std.proofs.Common.{◌∙◌, ◌≡◌, ℕ, List, [], ap, arith, refl, take}
use Rattle.guest_memory.specs.Holders.{held_in}
use Rattle.guest_memory.specs.Reserved.{without_thread}
use Rattle.guest_memory.specs.ReservedBy.{reserved_by}
use Rattle.guest_memory.proofs.HeldWords.{forgotten, none_held}
use Rattle.guest_memory.proofs.reservations.Reservations.forget.Goals as goal

pub returns-then-self-gt0 : goal.returns-then-self-gt0
unfolding reserved_by
returns-then-self-gt0 c =
    let old = c.args.self.now in
    ap held_in c.invalidate.ensures ∙ forgotten (take old.count old.holders) c.args.tid old.distinct

pub returns-else-self-gt0 : goal.returns-else-self-gt0
unfolding reserved_by
returns-else-self-gt0 c =
    let old = c.args.self.now in
    none_held (λ (hs : List (ℕ × ℕ)). held_in hs ≡ without_thread (held_in hs) c.args.tid) old.count old.holders (omega (arith, c.if-self-gt0.false)) (forgotten [] c.args.tid refl)
