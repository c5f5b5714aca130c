-- What moves in frames leaves their number.
use Rattle.std.proofs.Common.{◌≡◌, ℕ, List, length, ap, ◌∙◌, inl, inr}
use Rattle.std.specs.Prelude.{slice_index}
use Rattle.std.proofs.lemmas.Bool.{cases_lt}
use Rattle.shadow_stack.specs.declared.sums.Sums.{Sums}
use Rattle.shadow_stack.specs.Frames.{Frame, IsMoved, starts_of}
use Rattle.shadow_stack.proofs.Places.{added_if, length_added_if, length_changed}

pub length_moved : (stamp : ℕ) (by back : Sums) (old new : List Frame) → IsMoved stamp by back old new → length new ≡ length old
length_moved stamp by back old new h = elim (cases_lt stamp (slice_index (starts_of old) h.top)) [
  | inl above ↦
      let moved = h.moved above in
      ap length moved.2 ∙ length_changed h.top by (added_if back moved.0 old) ∙ length_added_if back moved.0 old
  | inr low ↦ ap length (h.still low)
]
