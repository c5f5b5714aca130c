-- The counts of a run stay small.
use Rattle.std.proofs.Common.{◌≡◌, ℕ, suc, ◌+◌, ◌*◌, ◌^◌, ◌<◌, ◌≤◌, Bool, nat_eq, inl, inr, List, [], ◌∷◌, length, map, refl, ap, ◌∙◌, arith, length-append}
use Rattle.std.specs.List.{All, range_with_len}
use Rattle.std.proofs.lemmas.List.{length-map}
use Rattle.std.proofs.lemmas.List.Elements.{All-map}
use Rattle.std.proofs.lemmas.List.FromFn.{length-range_with_len}
use Rattle.std.proofs.lemmas.List.Sums.{count_by-le-length, length-filter}
use Rattle.trace_model.specs.declared.event_kinds.Event.{Event}
use Rattle.trace_model.specs.declared.event_kinds.Event.TheVariants.{Step, Read, Write}
use Rattle.trace_model.specs.Events.{thread_of}
use Rattle.trace_model.specs.Profile.{steps}
use Rattle.trace_model.specs.WellFormed.{IsWellFormed, MayFollow, weight, weight_of}
use Rattle.trace_model.proofs.Bounds.{light_formed}
use Rattle.guest_words.specs.declared.limits.TheConstants.{TRACE_WEIGHT}
use Rattle.cost_points.specs.Keys.{rising, insert_rising}
use Rattle.cost_points.proofs.Bounds.{All-grouped}
use Rattle.cost_points.proofs.Grouped.{having}
use Rattle.cost_points.proofs.Rising.{insert_above, insert_below, insert_same, order}
use Rattle.cache_lines.specs.Shapes.{Dimensions}
use Rattle.cache_profile.proofs.Groups.{more-le, none_by_routine}
use Rattle.cache_profile.specs.Private.Added.{HasRoom}
use Rattle.cache_profile.specs.ByRoutine.{LineAccess, accesses_of, all_accesses, by_routine, counts_of, routine_at}
use Rattle.cache_profile.specs.LineAccesses.{line_accesses, line_of, lines_accessed, lines_over, missed}

-- ---- line accesses
insert-le : (x : ℕ) (ks : List ℕ) → length (insert_rising x ks) ≤ suc (length ks)
insert-le x [] = omega arith
insert-le x (k ∷ ks) = elim (order x k) [
  | inl h ↦ omega (arith, ap length (insert_below x k ks h))
  | inr (inl h) ↦ omega (arith, ap length (insert_same x k ks h))
  | inr (inr h) ↦ omega (arith, ap length (insert_above x k ks h), insert-le x ks)
]

rising-le : (xs : List ℕ) → length (rising xs) ≤ length xs
rising-le [] = omega arith
rising-le (x ∷ xs) = omega (arith, insert-le x (rising xs), rising-le xs)

lines-le : (shape : Dimensions) (first count : ℕ) → length (lines_over shape first count) ≤ count
lines-le shape first count =
    omega (arith, rising-le (map (line_of shape) (range_with_len first count)), length-map (range_with_len first count) (line_of shape), length-range_with_len first count)

pub length-missed : (shape : Dimensions) (earlier lines : List ℕ) → length (missed shape earlier lines) ≡ length lines
length-missed shape earlier [] = refl
length-missed shape earlier (line ∷ lines) = ap suc (length-missed shape (line ∷ earlier) lines)

pub length-accesses_of : (shape : Dimensions) (e : Event) (past : List Event) → length (accesses_of shape e past) ≡ length (lines_accessed shape e)
length-accesses_of shape e past =
    length-map (missed shape (line_accesses shape past) (lines_accessed shape e)) (λ (m : Bool). record { entry = routine_at past (thread_of e); missed = m })
    ∙ length-missed shape (line_accesses shape past) (lines_accessed shape e)

event-le : (shape : Dimensions) (e : Event) (past : List Event) → MayFollow e past → length (lines_accessed shape e) ≤ 2 ^ 30
event-le shape (Read tid first count) past may = omega (arith, lines-le shape first count, may.1.1)
event-le shape (Write tid first count) past may = omega (arith, lines-le shape first count, may.1.1)
event-le shape _ past may = omega arith

some_weight : (e : Event) → 1 ≤ weight_of e
some_weight (Step tid) = omega arith
some_weight _ = omega arith

-- an event has at most as many lines as the memory has words, and weighs at least one
all-le : (shape : Dimensions) (past : List Event) → IsWellFormed past → length (all_accesses shape past) ≤ 2 ^ 30 * weight past
all-le shape [] formed = omega arith
all-le shape (e ∷ past) formed =
    omega (
      arith,
      all-le shape past formed.2,
      event-le shape e past formed.0,
      some_weight e,
      length-append (all_accesses shape past) (accesses_of shape e past),
      length-accesses_of shape e past,
    )

abbrev entry_of : LineAccess → ℕ
entry_of a = a.entry

having-le : (k : ℕ) (all : List LineAccess) → length (having entry_of k all) ≤ length all
having-le k all = omega (arith, length-filter (λ (a : LineAccess). nat_eq a.entry k) all, count_by-le-length (λ (a : LineAccess). nat_eq a.entry k) all)

counts-fit : (all : List LineAccess) → length all < 2 ^ 127 → All HasRoom (by_routine all)
counts-fit all few =
    All-grouped entry_of counts_of HasRoom all (λ k some. record {
      accesses = omega (arith, few, having-le k all);
      misses = omega (arith, few, having-le k all, count_by-le-length (λ (a : LineAccess). a.missed) (having entry_of k all));
    })

-- a write weighs one and can access as many lines as the memory has words: so the counts are in 128 bits
pub have_room : (shape : Dimensions) (past : List Event) → IsWellFormed past → All HasRoom (by_routine (all_accesses shape past))
have_room shape past formed = counts-fit (all_accesses shape past) (omega (arith, all-le shape past formed, light_formed past formed))

-- ---- steps
steps-le : (past : List Event) → steps past ≤ weight past
steps-le [] = omega arith
steps-le (Step tid ∷ past) = omega (arith, steps-le past)
steps-le (_ ∷ past) = omega (arith, steps-le past)

pub few_steps : (past : List Event) (w count : ℕ) → w ≡ weight past → w + count < TRACE_WEIGHT → steps past + count < 2 ^ 64
few_steps past w count is light = omega (arith, steps-le past, is, light)

-- ---- routines
-- an event is of one routine, and weighs at least one
routines-le : (shape : Dimensions) (past : List Event) → length (by_routine (all_accesses shape past)) ≤ weight past
routines-le shape [] = omega (arith, ap length none_by_routine)
routines-le shape (e ∷ past) =
    let entry = routine_at past (thread_of e) in
    let ms = missed shape (line_accesses shape past) (lines_accessed shape e) in
    let same : All (λ a. a.entry ≡ entry) (accesses_of shape e past) =
    All-map (λ (a : LineAccess). a.entry ≡ entry) (λ m. record { entry = entry; missed = m }) ms (λ k d inside. refl) in
    omega (arith, routines-le shape past, more-le (all_accesses shape past) (accesses_of shape e past) entry same, some_weight e)

pub few_routines : (shape : Dimensions) (past : List Event) (count : ℕ) → IsWellFormed past → count ≡ length (by_routine (all_accesses shape past)) → count < 2 ^ 63
few_routines shape past count formed is = omega (arith, routines-le shape past, light_formed past formed, is)
