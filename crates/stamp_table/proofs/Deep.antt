-- What is too deep for a table.
use Rattle.std.proofs.Common.{◌≡◌, ℕ, ◌+◌, ◌*◌, not, ◌&&◌, ◌||◌, length, refl, sym, ap, ◌∙◌, arith}
use Rattle.std.specs.Prelude.{nat_eq, nat_le, nat_lt}
use Rattle.trace_model.specs.declared.event_kinds.Event.{Event}
use Rattle.trace_model.specs.declared.event_kinds.Event.TheVariants.{Call, Start}
use Rattle.trace_model.specs.Depth.{count_begun}
use Rattle.stamp_table.specs.Allows.{DeepDoesNotFit}
use Rattle.stamp_table.specs.Renewal.{all_starts}
use Rattle.stamp_table.proofs.Room.{fits_by_frames}

not_below : (m k : ℕ) → nat_lt m k ≡ not (nat_le k m)
not_below m k = grind arith

turned : (e : Event) (m k : ℕ) → (nat_lt 0 (count_begun e) && nat_lt m k) ≡ not (nat_eq (count_begun e) 0 || nat_le k m)
turned (Start t entry) m k = not_below m k
turned (Call t entry back) m k = not_below m k
turned _ m k = refl

pub deep_does_not_fit : DeepDoesNotFit
deep_does_not_fit most e table past s =
    ap (λ n. nat_lt 0 (count_begun e) && nat_lt most (3 * (n + 2))) (sym s.counted.frames)
    ∙ turned e most (3 * (length (all_starts table.threads) + 2))
    ∙ ap not (sym (fits_by_frames most e table past s))
