-- The profile of a run that goes on.
use Rattle.std.proofs.Common.{◌≡◌, ℕ, zero, suc, ◌+◌, ◌<◌, ◌≤◌, ◌^◌, Bool, true, false, List, [], ◌∷◌, ◌++◌, refl, sym, ap, subst, ◌∙◌, arith}
use Rattle.std.specs.Prelude.{not, None, Option, Some, is_some}
use Rattle.std.specs.Option.{option_map_or, option_to_list}
use Rattle.trace_model.specs.declared.event_kinds.Event.{Event}
use Rattle.trace_model.specs.declared.event_kinds.Event.TheVariants.{Call, Read, Step, Write}
use Rattle.trace_model.specs.declared.slow_profile.Done.{Done}
use Rattle.trace_model.specs.Depth.{is_within}
use Rattle.trace_model.specs.Profile.{ended, steps}
use Rattle.trace_model.specs.Observing.{MayStepBy, MayTake, with_steps}
use Rattle.trace_model.proofs.Feeding.{steps_formed}
use Rattle.trace_model.specs.WellFormed.{IsLight, IsWellFormed, weight}
use Rattle.shadow_core.specs.Applying.{IsTaken}
use Rattle.stamp_table.specs.Allows.{is_too_deep}
use Rattle.shadow_core.specs.Profiling.{StandsFor}
use Rattle.stamp_table.specs.Stands.{Stands}
use Rattle.shadow_core.specs.State.{State, table_of_state}
use Rattle.stamp_table.specs.Table.{Table}
use Rattle.stamp_table.proofs.Deep.{deep_does_not_fit}
use Rattle.run_profile.specs.Private.Passing.{IsSettled, ends_none}
use Rattle.run_profile.specs.Profile.{IsOfFormed, IsProfileOf, KeptRun, ended_at, waiting}

-- ---- Counts are small.
steps-le-weight : (past : List Event) → steps past ≤ weight past
steps-le-weight [] = omega arith
steps-le-weight (Step tid ∷ past) = omega (arith, steps-le-weight past)
steps-le-weight (_ ∷ past) = omega (arith, steps-le-weight past)

-- the steps of one event more
one_more : (e : Event) (past : List Event) → steps (e ∷ past) ≡ steps past + steps (e ∷ [])
one_more (Step tid) past = omega arith
one_more _ past = omega arith

pub few_steps : (n more : ℕ) (e : Event) (past : List Event) → IsLight (e ∷ past) → n ≡ steps past → more ≡ steps (e ∷ []) → n + more < 2 ^ 64
few_steps n more e past light is adds = omega (arith, steps-le-weight (e ∷ past), one_more e past, light, is, adds)

-- ---- What is too deep does not fit.
does_not_fit : (most : ℕ) (e : Event) (k : State) (past : List Event) → StandsFor most k past → (is_too_deep most e past ≡ false → ⊥) → is_within most (e ∷ past) ≡ false
does_not_fit most e k past stands deep = turn (is_too_deep most e past) (is_within most (e ∷ past)) (deep_does_not_fit most e (table_of_state k) past stands) deep
  where
    turn : (d w : Bool) → d ≡ not w → (d ≡ false → ⊥) → w ≡ false
    turn d false is none = refl
    turn d true is none = absurd (none is)

module _ (most : ℕ) {K : Type 0} (Holds : K → List Event → List Done → Type 0) (k : KeptRun K) (past : List Event) (p : IsProfileOf most Holds k past) where
  pub refused : (e : Event) → (is_too_deep most e past ≡ false → ⊥) → IsProfileOf most Holds k past × (is_within most (e ∷ past) ≡ false)
  refused e deep = (p, does_not_fit most e k.stamps past p.stands deep)

  -- what does not fit is too deep
  pub is_deep : (e : Event) → is_within most (e ∷ past) ≡ false → is_too_deep most e past ≡ true
  is_deep e is = deep_does_not_fit most e (table_of_state k.stamps) past p.stands ∙ ap not is

pub not_some : {X : Type 0} (o : Option X) → is_some o ≡ false → o ≡ None
not_some None is = refl
not_some (Some x) is = absurd (cc)

-- ---- The keeper takes the newest event.
module _ (most : ℕ) {K : Type 0} (Holds : K → List Event → List Done → Type 0) (k : KeptRun K) (past : List Event) (p : IsProfileOf most Holds k past) where
  -- it is still to take it
  module _ (e : Event) (some : k.next ≡ Some e) where
    pub newest : past ≡ e ∷ p.earlier
    newest = p.all ∙ ap (λ o. option_to_list o ++ p.earlier) some

    waits_all : waiting k ≡ k.ended
    waits_all = ap (λ (o : Option Event). option_map_or (λ x. k.ended) o []) some

    pub ends : k.ended ≡ ended e p.earlier
    ends = sym waits_all ∙ p.ended_is ∙ ap (λ o. ended_at o p.earlier) some

    -- what it holds
    pub held : Holds k.kept p.earlier k.ended
    held = subst (Holds k.kept p.earlier) waits_all p.kept

    -- it took it
    pub kept : (kept : K) → Holds kept (e ∷ p.earlier) [] → IsProfileOf most Holds (record k { kept = kept; next = None }) past
    kept new holds = record {
      stands = p.stands;
      earlier = past;
      all = refl;
      ended_is = refl;
      kept = subst (λ events. Holds new events []) (sym newest) holds;
      steps_are = p.steps_are;
    }

  -- it has taken all
  module _ (none : k.next ≡ None) where
    pub same : past ≡ p.earlier
    same = p.all ∙ ap (λ o. option_to_list o ++ p.earlier) none

    empty : waiting k ≡ []
    empty = ap (λ (o : Option Event). option_map_or (λ x. k.ended) o []) none

    pub settled : Holds k.kept past []
    settled = subst (λ events. Holds k.kept events []) (sym same) (subst (Holds k.kept p.earlier) empty p.kept)

    -- then it does not matter what ended last
    pub cleared : (ends : List Done) → IsProfileOf most Holds (record k { ended = ends }) past
    cleared ends = record {
      stands = p.stands;
      earlier = p.earlier;
      all = p.all;
      ended_is = ap (λ (o : Option Event). option_map_or (λ x. ends) o []) none ∙ sym empty ∙ p.ended_is;
      kept = subst (Holds k.kept p.earlier) (empty ∙ sym (ap (λ (o : Option Event). option_map_or (λ x. ends) o []) none)) p.kept;
      steps_are = p.steps_are;
    }

    -- ---- One event more.
    module _ (e : Event) (new : State) (before after : List Done) (none_yet : before ≡ []) (taken : IsTaken most e past new before after) where
      pub recorded : after ≡ ended e past
      recorded = taken.recorded ∙ ap (λ (ds : List Done). ds ++ ended e past) none_yet

      module _ (kept : K) (more : ℕ) (adds : more ≡ steps (e ∷ [])) where
        -- the keeper took it
        pub passed : (last : List Done) → Holds kept (e ∷ past) [] →
            IsProfileOf most Holds (record k { stamps = new; kept = kept; ended = last; steps = k.steps + more }) (e ∷ past) × (is_within most (e ∷ past) ≡ true)
        passed last holds =
            let nothing : option_map_or (λ (x : Event). last) k.next [] ≡ [] = ap (λ (o : Option Event). option_map_or (λ x. last) o []) none in (
              record {
                stands = taken.stands;
                earlier = e ∷ past;
                all = sym (ap (λ o. option_to_list o ++ (e ∷ past)) none);
                ended_is = nothing ∙ sym (ap (λ o. ended_at o (e ∷ past)) none);
                kept = subst (Holds kept (e ∷ past)) (sym nothing) holds;
                steps_are = omega (arith, p.steps_are, adds, one_more e past);
              },
              taken.fits,
            )

        -- it is still to take it
        pub waits : Holds kept past after →
            IsProfileOf most Holds (record k { stamps = new; kept = kept; next = Some e; ended = after; steps = k.steps + more }) (e ∷ past) × (is_within most (e ∷ past) ≡ true)
        waits holds = (
          record {
            stands = taken.stands;
            earlier = past;
            all = refl;
            ended_is = recorded;
            kept = holds;
            steps_are = omega (arith, p.steps_are, adds, one_more e past);
          },
          taken.fits,
        )

    -- the profiler refused it
    pub not_taken : (new : State) (after : List Done) → table_of_state new ≡ table_of_state k.stamps →
        IsProfileOf most Holds (record k { stamps = new; ended = after }) past
    unfolding cleared
    not_taken new after same_table = record {
      stands = subst (λ (table : Table). Stands most table past) (sym same_table) p.stands;
      earlier = p.earlier;
      all = p.all;
      ended_is = (cleared after).ended_is;
      kept = (cleared after).kept;
      steps_are = p.steps_are;
    }

-- ---- Steps in a row.
steps_more : (tid n : ℕ) (past : List Event) → steps (with_steps tid n past) ≡ steps past + n
steps_more tid zero past = omega arith
steps_more tid (suc n) past = omega (arith, steps_more tid n past)

formed_before : (t n : ℕ) (past : List Event) → IsWellFormed (with_steps t n past) → IsWellFormed past
formed_before t zero past formed = formed
formed_before t (suc n) past formed = formed_before t n past formed.2

pub of_formed : (most : ℕ) {K : Type 0} (Holds : K → List Event → List Done → Type 0) (t n : ℕ) (k : KeptRun K) →
    MayStepBy (IsProfileOf most Holds) (is_within most) k t n → IsOfFormed most Holds k
of_formed most Holds t n k may = record { past = may.past; now = may.now; formed = formed_before t n may.past may.formed }

pub few_more : (tid n : ℕ) (past : List Event) (had : ℕ) → 1 ≤ n → IsWellFormed (with_steps tid n past) → had ≡ steps past → had + n < 2 ^ 64
few_more tid zero past had some formed is = absurd (omega (arith, some))
few_more tid (suc n) past had some formed is =
    omega (arith, is, steps-le-weight (with_steps tid (suc n) past), steps_more tid (suc n) past, formed.1)

pub stepped : (most : ℕ) {K : Type 0} (Holds : K → List Event → List Done → Type 0) (t n : ℕ) (k : KeptRun K) (new : State) (kept : K) (past : List Event) →
    IsProfileOf most Holds k past → k.next ≡ None → StandsFor most new (with_steps t n past) → Holds kept (with_steps t n past) [] →
    IsProfileOf most Holds (record k { stamps = new; kept = kept; steps = k.steps + n }) (with_steps t n past)
stepped most Holds t n k new kept past p none stands holds = record {
  stands = stands;
  earlier = with_steps t n past;
  all = sym (ap (λ o. option_to_list o ++ with_steps t n past) none);
  ended_is = ap (λ (o : Option Event). option_map_or (λ x. k.ended) o []) none ∙ sym (ap (λ o. ended_at o (with_steps t n past)) none);
  kept = subst (Holds kept (with_steps t n past)) (sym (ap (λ (o : Option Event). option_map_or (λ x. k.ended) o []) none)) holds;
  steps_are = omega (arith, p.steps_are, steps_more t n past);
}

-- ---- Steps in a row, and an event after them.
-- what ends no activation here is no step
pub no_step : (e : Event) → ends_none e ≡ true → steps (e ∷ []) ≡ 0
no_step (Read t first count) is = refl
no_step (Write t first count) is = refl
no_step (Call t entry back) is = refl
no_step _ is = absurd (cc)

pub settled_of : (most : ℕ) {K : Type 0} (Holds : K → List Event → List Done → Type 0) (k : KeptRun K) (past : List Event) → IsProfileOf most Holds k past →
    k.next ≡ None → IsSettled Holds k past
settled_of most Holds k past p none = record { none = none; kept = settled most Holds k past p none; steps_are = p.steps_are }

-- a step of the thread may come
pub may_step : (most t n : ℕ) (e : Event) (s : State) (past : List Event) → StandsFor most s past → 1 ≤ n → IsWellFormed (e ∷ with_steps t n past) →
    MayTake (StandsFor most) s (Step t)
may_step most t n e s past stands some formed = record { past = past; now = stands; formed = steps_formed t n 0 past some formed.2 }

module _ (most : ℕ) {K : Type 0} (Holds : K → List Event → List Done → Type 0) (t n : ℕ) (k : KeptRun K) (past : List Event) (own : IsSettled Holds k past)
    (e : Event) (none : steps (e ∷ []) ≡ 0) (new : State) (after : List Done) (taken : IsTaken most e (with_steps t n past) new [] after) (kept : K) (last : List Done) where
  counted : k.steps + n ≡ steps (e ∷ with_steps t n past)
  counted = omega (arith, own.steps_are, steps_more t n past, one_more e (with_steps t n past), none)

  -- the keeper took it
  pub passed_after : Holds kept (e ∷ with_steps t n past) [] →
      IsProfileOf most Holds (record k { stamps = new; kept = kept; ended = last; steps = k.steps + n }) (e ∷ with_steps t n past)
  passed_after holds =
      let nothing : option_map_or (λ (x : Event). last) k.next [] ≡ [] = ap (λ (o : Option Event). option_map_or (λ x. last) o []) own.none in
      record {
        stands = taken.stands;
        earlier = e ∷ with_steps t n past;
        all = sym (ap (λ o. option_to_list o ++ (e ∷ with_steps t n past)) own.none);
        ended_is = nothing ∙ sym (ap (λ o. ended_at o (e ∷ with_steps t n past)) own.none);
        kept = subst (Holds kept (e ∷ with_steps t n past)) (sym nothing) holds;
        steps_are = counted;
      }

  -- it is still to take it
  pub waits_after : last ≡ after → Holds kept (with_steps t n past) after →
      IsProfileOf most Holds (record k { stamps = new; kept = kept; next = Some e; ended = last; steps = k.steps + n }) (e ∷ with_steps t n past)
  waits_after is holds = record {
    stands = taken.stands;
    earlier = with_steps t n past;
    all = refl;
    ended_is = is ∙ taken.recorded;
    kept = subst (Holds kept (with_steps t n past)) (sym is) holds;
    steps_are = counted;
  }

-- ---- An access, which goes on to the keeper before the profiler takes it.
module _ (most : ℕ) {K : Type 0} (Holds : K → List Event → List Done → Type 0) (t n : ℕ) (old : KeptRun K) (past : List Event) (p : IsProfileOf most Holds old past)
    (none : old.next ≡ None) where
  -- `after` is what it is once the event went on
  pub access_taken : (after : KeptRun K) (e : Event) (new : State) → after.stamps ≡ old.stamps →
      ((past : List Event) (stamps : State) → IsSettled Holds old past → IsTaken most e (with_steps t n past) stamps [] [] →
      IsProfileOf most Holds (record after { stamps = stamps }) (e ∷ with_steps t n past)) →
      (StandsFor most after.stamps past → IsTaken most e (with_steps t n past) new [] []) →
      IsProfileOf most Holds (record after { stamps = new }) (e ∷ with_steps t n past) × (is_within most (e ∷ with_steps t n past) ≡ true)
  access_taken after e new same passes takes =
      let taken = takes (subst (λ (s : State). StandsFor most s past) (sym same) p.stands) in
      (passes past new (settled_of most Holds old past p none) taken, taken.fits)
