-- Renumberings are rare where few activations are open at once.
use Rattle.std.proofs.Common.{◌≡◌, ℕ, zero, suc, ◌+◌, ◌-◌, ◌*◌, ◌≤◌, Bool, true, false, not, cond, ltb, ◌&&◌, List, [], ◌∷◌, length, refl, ap, arith}
use Rattle.std.proofs.lemmas.Bool.{ltb-false}
use Rattle.trace_model.specs.declared.event_kinds.Event.{Event}
use Rattle.trace_model.specs.Depth.{pending}
use Rattle.trace_model.specs.WellFormed.{last_step}
use Rattle.stamp_table.specs.Ticks.{ticks}
use Rattle.stamp_table.specs.Counting.{next_counter, counter_of, renumberings, tick_count}
use Rattle.stamp_table.specs.Laws.{IsNeverDeeper, RenumberingsAreRare, RenumberingsByEvents}

-- The counter and `gap` for each renumbering are paid for by the ticks: a plain tick adds one to the counter, and one that
-- renumbers takes the counter from the greatest stamp to at most three for each open activation and three more.
one_more : (most depth gap counter renumbered ticked : ℕ) (b : Bool) → gap + 3 * depth + 2 ≤ most → counter + renumbered * gap ≤ ticked →
    cond b (next_counter most counter depth) counter + (renumbered + cond (b && not (ltb counter most)) 1 0) * gap ≤ ticked + cond b 1 0
one_more most depth gap counter renumbered ticked false room paid = grind arith
one_more most depth gap counter renumbered ticked true room paid = by (ltb counter most) refl
  where
    by : (c : Bool) → ltb counter most ≡ c → cond c (counter + 1) (3 * depth + 3) + (renumbered + cond (not c) 1 0) * gap ≤ ticked + 1
    by true e = grind arith
    by false e = grind (arith, ltb-false counter most e)

paid : (most depth gap : ℕ) (past : List Event) → gap + 3 * depth + 2 ≤ most → IsNeverDeeper depth past →
    counter_of most past + renumberings most past * gap ≤ tick_count past
paid most depth gap [] room low = omega arith
paid most depth gap (e ∷ past) room low =
    let few : pending past ≤ depth = low (e ∷ []) past refl in
    one_more most (pending past) gap (counter_of most past) (renumberings most past) (tick_count past)
    (ticks e (last_step past)) (omega (arith, few, room))
    (paid most depth gap past room (λ later earlier same. low (e ∷ later) earlier (ap (λ p. e ∷ p) same)))

pub renumberings_are_rare : RenumberingsAreRare
renumberings_are_rare most depth past low = by (most - (3 * depth + 2)) refl
  where
    by : (gap : ℕ) → most - (3 * depth + 2) ≡ gap → renumberings most past * gap ≤ tick_count past
    by zero e = grind arith
    by (suc n) e = let p = paid most depth (suc n) past (omega (arith, e)) low in omega (arith, p)

-- no event comes with two ticks
few_ticks : (past : List Event) → tick_count past ≤ length past
few_ticks [] = omega arith
few_ticks (e ∷ past) = by (ticks e (last_step past)) (few_ticks past)
  where
    by : (b : Bool) → tick_count past ≤ length past → tick_count past + cond b 1 0 ≤ length (e ∷ past)
    by true few = omega (arith, few)
    by false few = omega (arith, few)

pub renumberings_by_events : RenumberingsByEvents
renumberings_by_events most depth past low = let rare = renumberings_are_rare most depth past low in let few = few_ticks past in omega (arith, rare, few)
