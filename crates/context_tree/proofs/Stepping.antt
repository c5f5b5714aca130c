-- Steps of a thread change nothing of the contexts.
use Rattle.std.proofs.Common.{◌≡◌, ◌∙◌, ℕ, zero, suc, ◌+◌, ◌<◌, ◌≤◌, List, ◌∷◌, map, refl, sym, ap, append-nil, arith}
use Rattle.trace_model.specs.declared.event_kinds.Event.{Event}
use Rattle.trace_model.specs.declared.event_kinds.Event.TheVariants.{Step}
use Rattle.trace_model.specs.declared.slow_profile.Done.{Done}
use Rattle.guest_words.specs.declared.limits.TheConstants.{TRACE_WEIGHT}
use Rattle.trace_model.specs.Observing.{with_steps}
use Rattle.trace_model.specs.WellFormed.{IsWellFormed, is_live}
use Rattle.trace_order.specs.Progress.{IsProgressOf, ProgressState}
use Rattle.trace_order.proofs.Progressing.{heavier}
use Rattle.context_tree.specs.Branches.{BranchesStandFor, KeptBranches}
use Rattle.context_tree.specs.Contexts.{contexts}
use Rattle.context_tree.specs.Points.{done_in_context, points_of}
use Rattle.context_tree.specs.Trees.{KeptTree, MayStepOn, TreeStandsFor}

one_stays : (kept : KeptBranches) (t : ℕ) (past : List Event) → BranchesStandFor kept past → BranchesStandFor kept (Step t ∷ past)
one_stays kept t past s = record {
  contexts_are = s.contexts_are;
  few = s.few;
  points_are = s.points_are ∙ ap (λ (ds : List (List ℕ × Done)). map (points_of ds) (contexts past)) (sym (append-nil (done_in_context past)));
  links_are = s.links_are;
  threads_live = s.threads_live;
  threads_began = s.threads_began;
  threads_in = s.threads_in;
}

pub branches_stay : (kept : KeptBranches) (t n : ℕ) (past : List Event) → BranchesStandFor kept past → BranchesStandFor kept (with_steps t n past)
branches_stay kept t zero past s = s
branches_stay kept t (suc n) past s = one_stays kept t (with_steps t n past) (branches_stay kept t n past s)

live_same : (t n : ℕ) (past : List Event) (u : ℕ) → is_live (with_steps t n past) u ≡ is_live past u
live_same t zero past u = refl
live_same t (suc n) past u = live_same t n past u

-- whatever past it is kept of, as many steps may come
pub formed_by : (kept : KeptTree) (t n : ℕ) (own past : List Event) → TreeStandsFor kept own → IsWellFormed (with_steps t n own) → TreeStandsFor kept past → IsWellFormed (with_steps t n past)
formed_by kept t zero own past mine formed s = s.progress_is.formed
formed_by kept t (suc n) own past mine formed s = (
  live_same t n past t ∙ sym (s.branches_are.threads_live t) ∙ mine.branches_are.threads_live t ∙ sym (live_same t n own t) ∙ formed.0,
  omega (arith, heavier t (suc n) past, heavier t (suc n) own, s.progress_is.weight, mine.progress_is.weight, formed.1),
  formed_by kept t n own past mine formed.2 s,
)

pub stays_light : (kept : KeptTree) (t n : ℕ) → 1 ≤ n → MayStepOn kept t n → kept.progress.weight + n < TRACE_WEIGHT
stays_light kept t zero some may = absurd (omega (arith, some))
stays_light kept t (suc n) some may = omega (arith, heavier t (suc n) may.past, may.now.progress_is.weight, may.formed.1)

pub stands_on : (kept : KeptTree) (t n : ℕ) → MayStepOn kept t n → (progress : ProgressState) →
    ((past : List Event) → IsProgressOf kept.progress past → IsWellFormed (with_steps t n past) → IsProgressOf progress (with_steps t n past)) →
    (past : List Event) → TreeStandsFor kept past → TreeStandsFor (record { branches = kept.branches; progress = progress }) (with_steps t n past)
stands_on kept t n may progress passes past s = record {
  branches_are = branches_stay kept.branches t n past s.branches_are;
  progress_is = passes past s.progress_is (formed_by kept t n may.past past may.now may.formed s);
}
