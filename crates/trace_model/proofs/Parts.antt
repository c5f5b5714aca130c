-- A trace of short parts is light.
use Rattle.std.proofs.Common.{◌≡◌, ℕ, ◌+◌, ◌*◌, ◌≤◌, Bool, true, false, cond, List, [], ◌∷◌, length, refl, arith}
use Rattle.std.specs.Prelude.{All}
use Rattle.std.specs.List.{sum_by}
use Rattle.std.proofs.lemmas.List.Sums.{sum_by-cons}
use Rattle.std.proofs.lemmas.List.Elements.{All-head, All-tail}
use Rattle.trace_model.specs.declared.event_kinds.Event.{Event}
use Rattle.trace_model.specs.declared.event_kinds.Event.TheVariants.{Step}
use Rattle.trace_model.specs.Parts.{IsShort, ShortPartsAreLight, count_read, is_step, parts, with_event}
use Rattle.trace_model.specs.Profile.{steps}
use Rattle.trace_model.specs.WellFormed.{weight, weight_of}

weight_is : (e : Event) → weight_of e ≡ 1 + count_read e
weight_is (Step a) = refl
weight_is _ = refl

steps_more : (e : Event) (past : List Event) → steps (e ∷ past) ≡ steps past + cond (is_step e) 1 0
steps_more (Step a) past = refl
steps_more _ past = omega arith

pub part_weight : (part : List Event) → weight part ≡ length part + sum_by count_read part
part_weight [] = refl
part_weight (e ∷ part) = omega (arith, sum_by-cons count_read e part, weight_is e, part_weight part)

weight_with : (e : Event) (begins : Bool) (ps : List (List Event)) → sum_by weight (with_event e begins ps) ≡ sum_by weight ps + weight_of e
weight_with e false [] = omega (arith, sum_by-cons weight (e ∷ []) [])
weight_with e true ps = omega (arith, sum_by-cons weight (e ∷ []) ps)
weight_with e false (p ∷ ps) = omega (arith, sum_by-cons weight (e ∷ p) ps, sum_by-cons weight p ps)

parts_weigh : (past : List Event) → weight past ≡ sum_by weight (parts past)
parts_weigh [] = refl
parts_weigh (e ∷ past) = omega (arith, weight_with e (is_step e) (parts past), parts_weigh past)

-- with one more event there is at most one more part, and for an event that is no step only if it is the first
count_with : (e : Event) (begins : Bool) (ps : List (List Event)) (n : ℕ) → length ps ≤ n + 1 → length (with_event e begins ps) ≤ n + cond begins 1 0 + 1
count_with e false [] n few = omega arith
count_with e true ps n few = omega (arith, few)
count_with e false (p ∷ ps) n few = omega (arith, few)

few_parts : (past : List Event) → length (parts past) ≤ steps past + 1
few_parts [] = omega arith
few_parts (e ∷ past) = omega (arith, count_with e (is_step e) (parts past) (steps past) (few_parts past), steps_more e past)

short_weight : (ps : List (List Event)) → All IsShort ps → sum_by weight ps ≤ 66635 * length ps
short_weight [] short = omega arith
short_weight (p ∷ ps) short =
    let head = All-head IsShort p ps short in
    omega (arith, sum_by-cons weight p ps, part_weight p, head.events, head.words, short_weight ps (All-tail IsShort p ps short))

pub short_light : ShortPartsAreLight
short_light past few short = omega (arith, parts_weigh past, short_weight (parts past) short, few_parts past, few)
