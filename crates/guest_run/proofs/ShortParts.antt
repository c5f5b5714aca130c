-- The trace of a run is cut into short parts.
use Rattle.std.proofs.Common.{◌≡◌, ℕ, ◌+◌, ◌<◌, Bool, true, false, cond, List, [], ◌∷◌, length, refl, sym, ap, ap₂, subst, arith}
use Rattle.std.specs.Prelude.{All}
use Rattle.std.specs.List.{sum_by}
use Rattle.std.proofs.lemmas.List.Elements.{All-cons, All-head, All-nil, All-tail}
use Rattle.std.proofs.lemmas.List.Sums.{sum_by-cons}
use Rattle.trace_model.specs.declared.event_kinds.Event.{Event}
use Rattle.trace_model.specs.declared.event_kinds.Event.TheVariants.{Step, Start}
use Rattle.trace_model.specs.Cut.{cut, past_after}
use Rattle.trace_model.proofs.Cut.{past_after-append, past_after-cons}
use Rattle.trace_model.specs.Parts.{IsShort, count_read, is_step, parts, with_event}
use Rattle.trace_model.specs.Profile.{steps}
use Rattle.guest_machine.specs.Laws.{IsOnePart}
use Rattle.guest_machine.specs.Start.{start}
use Rattle.guest_machine.specs.Step.{step}
use Rattle.guest_machine.proofs.StepParts.{every_step_part}
use Rattle.guest_run.specs.Machine.{guest}
use Rattle.guest_run.specs.Run.{events_of, run}
use Rattle.guest_run.specs.Run as runs
use Rattle.guest_run.specs.ObservedRun.{first_past, observed_run}
use Rattle.guest_run.specs.Traces.{EveryRunIsOfShortParts}
use Rattle.guest_run.proofs.Guarded.{IsSoundAfter, Steps, each_move, sound_next, sound_woken, start_able, start_sound}

abbrev HasShortParts : List Event → Type 0
HasShortParts past = All IsShort (parts past)

-- ---- a move is one part
not_step : (e : Event) (events : List Event) → steps (e ∷ events) ≡ 0 → (is_step e ≡ false) × (steps events ≡ 0)
not_step (Step tid) events none = absurd (omega (arith, none))
not_step _ events none = (refl, none)

-- events that are no steps belong to the newest part
more_parts : (events past part : List Event) (older : List (List Event)) → steps events ≡ 0 → parts past ≡ part ∷ older →
    length part + length events < 1100 → sum_by count_read part + sum_by count_read events < 65536 → All IsShort older →
    HasShortParts (past_after past events)
more_parts [] past part older none is few words short =
    subst (All IsShort) (sym is) (All-cons IsShort part older (record { events = omega (arith, few); words = omega (arith, words) }) short)
more_parts (e ∷ events) past part older none is few words short =
    let own = not_step e events none in
    let next : parts (e ∷ past) ≡ (e ∷ part) ∷ older = ap₂ (λ (b : Bool) (ps : List (List Event)). with_event e b ps) own.0 is in
    let read = sum_by-cons count_read e events in
    let reads = sum_by-cons count_read e part in
    subst HasShortParts (sym (past_after-cons past e events))
    (more_parts events (e ∷ past) (e ∷ part) older own.1 next (omega (arith, few)) (omega (arith, words, read, reads)) short)

pub move_short : (tid : ℕ) (events past : List Event) → IsOnePart tid events → HasShortParts past →
    HasShortParts (past_after past events)
move_short tid [] past part short = short
move_short tid (e ∷ events) past part short =
    let begins : is_step e ≡ true = ap is_step part.0 in
    let next : parts (e ∷ past) ≡ (e ∷ []) ∷ parts past = ap (λ (b : Bool). with_event e b (parts past)) begins in
    let own = part.2.events in
    let read = sum_by-cons count_read e events in
    let reads = sum_by-cons count_read e [] in
    subst HasShortParts (sym (past_after-cons past e events))
    (more_parts events (e ∷ past) (e ∷ []) (parts past) part.1 next (omega (arith, own)) (omega (arith, part.2.words, read, reads)) short)

run_short : Steps IsSoundAfter (λ past moves. HasShortParts past → HasShortParts (past_after past (events_of moves)))
run_short = record {
  keeps = sound_next;
  wakes = sound_woken;
  none = λ past short. short;
  moves = λ opens m tid past moves sound can rest short.
      let events = (step m tid).events in
      let own = move_short tid events past (every_step_part m tid sound.1.few) short in
      subst HasShortParts (sym (past_after-append past events (events_of moves))) (rest own);
}

-- ---- a cut
short-older : (e : Event) (begins : Bool) (older : List (List Event)) → All IsShort (with_event e begins older) → All IsShort older
short-older e true older short = All-tail IsShort (e ∷ []) older short
short-older e false [] short = All-nil IsShort
short-older e false (part ∷ older) short =
    let head = All-head IsShort (e ∷ part) older short in
    let reads = sum_by-cons count_read e part in
    All-cons IsShort part older (record { events = omega (arith, head.events); words = omega (arith, head.words, reads) })
    (All-tail IsShort (e ∷ part) older short)

short-cut : (fits : List Event → Bool) (past : List Event) → HasShortParts past → HasShortParts (cut fits past)
short-cut fits [] short = short
short-cut fits (e ∷ past) short = by (fits (e ∷ past)) (short-cut fits past (short-older e (is_step e) (parts past) short))
  where
    by : (b : Bool) → HasShortParts (cut fits past) → HasShortParts (cond b (e ∷ past) (cut fits past))
    by true rest = short
    by false rest = rest

-- ---- whole runs
pub first_short : (entry : ℕ) → HasShortParts (first_past entry)
first_short entry =
    let reads = sum_by-cons count_read (Start 1 entry) [] in
    All-cons IsShort (Start 1 entry ∷ []) [] (record { events = omega arith; words = omega (arith, reads) }) (All-nil IsShort)

pub every_run_short : EveryRunIsOfShortParts
unfolding observed_run
every_run_short image arguments inputs stdin fits turns budget =
    let begin = start image arguments inputs stdin in
    let past = first_past image.entry in
    let at = runs.start turns begin in
    let all = each_move IsSoundAfter _ run_short budget at past (start_sound image arguments inputs stdin) (start_able at refl) (first_short image.entry) in
    record { all = all; observed_part = short-cut fits (past_after past (events_of (run guest turns budget begin).moves)) all }
