use Rattle.std.proofs.lemmas.List.Filters.{FiltersInPlace}
use Rattle.std.proofs.Common.{not}
use Rattle.guest_memory.specs.Holders.{is_invalidated}
use Rattle.guest_memory.proofs.reservations.retain_valid.Given as goal

abbrev pub invariant-loop-place : goal.invariant-loop-place
invariant-loop-place l = FiltersInPlace (λ h. not (is_invalidated l.invalidation h)) l.initial.holders l.holders l.kept l.place
