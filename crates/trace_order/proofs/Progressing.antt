-- What the progress tells of a past.
use Rattle.std.proofs.Common.{◌≡◌, ◌↔◌, ℕ, zero, suc, ◌+◌, ◌≤◌, Bool, false, List, ◌∷◌, All, refl, sym, ap, ◌∙◌, subst, arith}
use Rattle.std.specs.Prelude.{Option, Some, None}
use Rattle.std.specs.Option.{option_map_or}
use Rattle.trace_model.specs.declared.event_kinds.Event.{Event}
use Rattle.trace_model.specs.Events.{thread_of}
use Rattle.trace_model.specs.declared.event_kinds.Event.TheVariants.{Step, Read, Write, Fill, Call, Ret, Start, End}
use Rattle.trace_model.specs.Observing.{with_steps}
use Rattle.trace_model.specs.WellFormed.{IsWellFormed, MayFollow, greatest_start, is_live, weight, weight_of}
use Rattle.trace_order.specs.Order.{is_start}
use Rattle.trace_order.specs.Progress.{Allows, IsAllowed, IsProgressOf, ProgressState, is_of_one, passed, passed_steps}

follows : (e : Event) (lives : Bool) (p : ProgressState) (past : List Event) → IsProgressOf p past → lives ≡ is_of_one (is_live past) e → Allows e lives p ↔ MayFollow e past
follows (Step tid) lives p past of is = (λ h. sym is ∙ h, λ h. is ∙ h)
follows (Read tid first count) lives p past of is = (λ h. ((sym is ∙ h.0.0, sym of.last ∙ h.0.1), h.1), λ h. ((is ∙ h.0.0, of.last ∙ h.0.1), h.1))
follows (Write tid first count) lives p past of is = (λ h. ((sym is ∙ h.0.0, sym of.last ∙ h.0.1), h.1), λ h. ((is ∙ h.0.0, of.last ∙ h.0.1), h.1))
follows (Fill first count) lives p past of is = (λ h. h, λ h. h)
follows (Call tid entry back) lives p past of is = (λ h. (sym is ∙ h.0, sym of.last ∙ h.1), λ h. (is ∙ h.0, of.last ∙ h.1))
follows (Ret tid target) lives p past of is = (λ h. (sym is ∙ h.0, sym of.last ∙ h.1), λ h. (is ∙ h.0, of.last ∙ h.1))
follows (Start tid entry) lives p past of is = (λ h. omega (arith, of.greatest, h), λ h. omega (arith, of.greatest, h))
follows (End tid) lives p past of is = (λ h. sym is ∙ h, λ h. is ∙ h)

-- it allows what may follow the past, and no more
pub allowed : (e : Event) (lives : Bool) (p : ProgressState) (past : List Event) → IsProgressOf p past → lives ≡ is_of_one (is_live past) e → IsAllowed e lives p ↔ IsWellFormed (e ∷ past)
allowed e lives p past of is =
    let fits = follows e lives p past of is in
    (λ h. (fits.0 h.0, omega (arith, of.weight, h.1), of.formed), λ h. (fits.1 h.0, omega (arith, of.weight, h.1)))

-- whoever keeps the live threads
of_one_same : (live also : ℕ → Bool) → ((t : ℕ) → live t ≡ also t) → (o : Option ℕ) → option_map_or live o false ≡ option_map_or also o false
of_one_same live also same None = refl
of_one_same live also same (Some t) = same t

pub allowed_by : (e : Event) (live : ℕ → Bool) (p : ProgressState) (past : List Event) → IsProgressOf p past → ((t : ℕ) → live t ≡ is_live past t) → IsAllowed e (is_of_one live e) p ↔ IsWellFormed (e ∷ past)
allowed_by e live p past of same = allowed e (is_of_one live e) p past of (of_one_same live (is_live past) same (thread_of e))

-- and goes on with it
pub passes : (e : Event) (p : ProgressState) (past : List Event) → IsProgressOf p past → IsWellFormed (e ∷ past) → IsProgressOf (passed e p) (e ∷ past)
passes (Step tid) p past of formed = record { last = refl; greatest = of.greatest; weight = omega (arith, of.weight); formed = formed }
passes (Read tid first count) p past of formed = record { last = of.last; greatest = of.greatest; weight = omega (arith, of.weight); formed = formed }
passes (Write tid first count) p past of formed = record { last = of.last; greatest = of.greatest; weight = omega (arith, of.weight); formed = formed }
passes (Fill first count) p past of formed = record { last = of.last; greatest = of.greatest; weight = omega (arith, of.weight); formed = formed }
passes (Call tid entry back) p past of formed = record { last = of.last; greatest = of.greatest; weight = omega (arith, of.weight); formed = formed }
passes (Ret tid target) p past of formed = record { last = of.last; greatest = of.greatest; weight = omega (arith, of.weight); formed = formed }
passes (Start tid entry) p past of formed = record { last = of.last; greatest = omega (arith, formed.0); weight = omega (arith, of.weight); formed = formed }
passes (End tid) p past of formed = record { last = of.last; greatest = of.greatest; weight = omega (arith, of.weight); formed = formed }

-- ---- steps of a thread in a row
pub heavier : (t n : ℕ) (past : List Event) → weight (with_steps t n past) ≡ weight past + n
heavier t zero past = omega arith
heavier t (suc n) past = omega (arith, heavier t n past)

greatest_same : (t n : ℕ) (past : List Event) → greatest_start (with_steps t n past) ≡ greatest_start past
greatest_same t zero past = refl
greatest_same t (suc n) past = greatest_same t n past

pub passes_steps : (t n : ℕ) (p : ProgressState) (past : List Event) → 1 ≤ n → IsProgressOf p past → IsWellFormed (with_steps t n past) → IsProgressOf (passed_steps t n p) (with_steps t n past)
passes_steps t zero p past some of formed = absurd (omega (arith, some))
passes_steps t (suc n) p past some of formed = record {
  last = refl;
  greatest = of.greatest ∙ sym (greatest_same t (suc n) past);
  weight = omega (arith, of.weight, heavier t (suc n) past);
  formed = formed;
}

-- ---- what is so of the progress with one more event
pub weighs : (e : Event) (p : ProgressState) → (passed e p).weight ≡ p.weight + weight_of e
weighs (Step tid) p = refl
weighs (Read tid first count) p = refl
weighs (Write tid first count) p = refl
weighs (Fill first count) p = refl
weighs (Call tid entry back) p = refl
weighs (Ret tid target) p = refl
weighs (Start tid entry) p = refl
weighs (End tid) p = refl

greatest_stays : (e : Event) (p : ProgressState) → is_start e ≡ false → (passed e p).greatest ≡ p.greatest
greatest_stays (Step tid) p other = refl
greatest_stays (Read tid first count) p other = refl
greatest_stays (Write tid first count) p other = refl
greatest_stays (Fill first count) p other = refl
greatest_stays (Call tid entry back) p other = refl
greatest_stays (Ret tid target) p other = refl
greatest_stays (Start tid entry) p other = absurd (cc)
greatest_stays (End tid) p other = refl

-- the live threads began, as before
pub began : (e : Event) (p q : ProgressState) (live : List ℕ) → q ≡ passed e p → is_start e ≡ false → All (λ t. t ≤ p.greatest) live → All (λ t. t ≤ q.greatest) live
began e p q live is other all = subst (λ (g : ℕ). All (λ t. t ≤ g) live) (sym (ap (λ (s : ProgressState). s.greatest) is ∙ greatest_stays e p other)) all
