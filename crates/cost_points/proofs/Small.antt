-- The size and the cost of an activation are at most the weight of the past, and so are those that ended.
use Rattle.std.proofs.Common.{ℕ, ◌+◌, ◌-◌, ◌<◌, ◌≤◌, ◌^◌, List, [], ◌∷◌, drop, length, take, ap, arith}
use Rattle.std.specs.Prelude.{not, Option, Some, None}
use Rattle.std.specs.List.{All}
use Rattle.std.proofs.lemmas.List.{take-append-drop}
use Rattle.std.proofs.lemmas.List.Elements.{All-append, All-cons, All-map, All-nil, All-weaker}
use Rattle.trace_model.specs.declared.event_kinds.Event.{Event}
use Rattle.trace_model.specs.declared.event_kinds.Event.TheVariants.{Step}
use Rattle.trace_model.specs.declared.activations.Activation.{Activation}
use Rattle.trace_model.specs.declared.slow_profile.Done.{Done}
use Rattle.trace_model.specs.Activations.{ending_calls}
use Rattle.trace_model.specs.Events.{thread_of}
use Rattle.trace_model.specs.Laws.{begun_count}
use Rattle.trace_model.specs.Profile.{done, done_of, ended, ended_of}
use Rattle.trace_model.specs.Sizes.{known, since}
use Rattle.trace_model.specs.WellFormed.{IsLight, weight}
use Rattle.trace_model.proofs.Bounds.{cost-le-weight, pairs-le-weight, weight-append}
use Rattle.trace_model.proofs.Pending.{done-pending}

abbrev pub IsSmall : ℕ → Done → Type 0
IsSmall most d = (d.size ≤ most) × (d.cost ≤ most)

part-le : (n : ℕ) (past : List Event) → weight (take n past) ≤ weight past
part-le n past = omega (arith, weight-append (take n past) (drop n past), ap weight (take-append-drop n past))

one_small : (past : List Event) (t : ℕ) (a : Activation) → IsSmall (weight past) (done_of past t a)
one_small past t a =
    let inside = since past a.at in
    let part = part-le (length past - (a.at + 1)) past in
    let pairs = pairs-le-weight (λ earlier l. not (known earlier t l)) inside t in
    let steps = cost-le-weight inside t in
    (omega (arith, pairs, part), omega (arith, steps, part))

all_small : (past : List Event) (t : ℕ) (opens : List Activation) → All (λ a. IsSmall (weight past) (done_of past t a)) opens
all_small past t [] = All-nil (λ a. IsSmall (weight past) (done_of past t a))
all_small past t (a ∷ opens) = All-cons (λ a. IsSmall (weight past) (done_of past t a)) a opens (one_small past t a) (all_small past t opens)

ended_small : (past : List Event) (e : Event) (of : Option ℕ) → All (IsSmall (weight past)) (ended_of past e of)
ended_small past e None = All-nil (IsSmall (weight past))
ended_small past e (Some t) = All-map (IsSmall (weight past)) (done_of past t) (ending_calls e past t) (all_small past t (ending_calls e past t))

pub small_done : (past : List Event) → All (IsSmall (weight past)) (done past)
small_done [] = All-nil (IsSmall 0)
small_done (e ∷ past) =
    All-weaker (IsSmall (weight past)) (IsSmall (weight (e ∷ past))) (λ d small. (omega (arith, small.0), omega (arith, small.1))) (done (e ∷ past))
    (All-append (IsSmall (weight past)) (done past) (ended e past) (small_done past) (ended_small past e (thread_of e)))

begun-le-weight : (past : List Event) → begun_count past ≤ weight past
begun-le-weight [] = omega arith
begun-le-weight (Step tid ∷ past) = omega (arith, begun-le-weight past)
begun-le-weight (_ ∷ past) = omega (arith, begun-le-weight past)

pub few_done : (past : List Event) → IsLight past → length (done past) < 2 ^ 62
few_done past light = omega (arith, done-pending past, begun-le-weight past, light)
