-- What is kept of the calling contexts of a run.
use Rattle.std.specs.Prelude.{◌≡◌, ℕ, ◌+◌, Bool, length, List, [], ◌∷◌, ◌++◌, IsSomeAnd, is_some}
use Rattle.guest_words.specs.ByThread.{value_of}
use Rattle.trace_model.specs.declared.event_kinds.Event.{Event}
use Rattle.trace_model.specs.declared.event_kinds.Event.TheVariants.{End, Ret}
use Rattle.trace_model.specs.declared.slow_profile.Done.{Done}
use Rattle.trace_model.specs.Observing.{with_steps}
use Rattle.trace_model.specs.Profile.{ended}
use Rattle.trace_model.specs.WellFormed.{IsWellFormed}
use Rattle.trace_order.specs.Progress.{IsAllowed, IsProgressOf, ProgressState, is_of_one}
use Rattle.cost_points.specs.declared.point.Point.{Point}
use Rattle.context_tree.specs.Branches as grown
use Rattle.context_tree.specs.Contexts.{context_begun, contexts}
use Rattle.context_tree.specs.Numbers.{IsBeyond}
use Rattle.context_tree.specs.Points.{points_in}

-- The contexts with their points, and what tells with the threads that live which event may come next.
pub record KeptTree : Type 0 where
  pub branches : grown.KeptBranches
  pub progress : ProgressState

-- It is what is kept of this past, which is one that a run can have.
pub record TreeStandsFor (kept : KeptTree) (past : List Event) : Type 0 where
  pub branches_are : grown.BranchesStandFor kept.branches past
  pub progress_is : IsProgressOf kept.progress past

-- It is what is kept of some past.
pub record IsOfSome (kept : KeptTree) : Type 0 where
  pub past : List Event
  pub now : TreeStandsFor kept past

-- the thread is in a context
abbrev pub lives : KeptTree → ℕ → Bool
lives kept t = is_some (value_of kept.branches.threads t)

-- The event may come next, by what is kept alone: what this shows holds for every past that it stands for.
abbrev pub MayCome : KeptTree → Event → Type 0
MayCome kept e = IsAllowed e (is_of_one (lives kept) e) kept.progress

-- They are the activations that the event ends after some past of which this is kept.
pub record AreOfSome (kept : KeptTree) (e : Event) (ends : List Done) : Type 0 where
  pub past : List Event
  pub now : TreeStandsFor kept past
  pub ends_are : ends ≡ ended e past

-- They are the activations that the event ends: of a return or the end of a thread, those that it ends after some past of
-- which this is kept; any other event ends none.
abbrev pub AreEnded : KeptTree → Event → List Done → Type 0
AreEnded kept (Ret tid target) ends = ∥ AreOfSome kept (Ret tid target) ends ∥₁
AreEnded kept (End tid) ends = ∥ AreOfSome kept (End tid) ends ∥₁
AreEnded kept e ends = ends ≡ []

-- It is what is kept of some past after which these steps of the thread may come.
pub record MayStepOn (kept : KeptTree) (tid count : ℕ) : Type 0 where
  pub past : List Event
  pub now : TreeStandsFor kept past
  pub formed : IsWellFormed (with_steps tid count past)

-- They are the depth of the context, one less than its entries, the last of these, and its points.
pub record IsShown (past : List Event) (c : List ℕ) (depth entry : ℕ) (points : List Point) : Type 0 where
  pub depth_is : depth + 1 ≡ length c
  -- the entries before the last
  pub front : List ℕ
  pub entry_is : c ≡ front ++ entry ∷ []
  pub points_are : points ≡ points_in past c

-- The event begins a context that is not there, where there are as many as can be numbered.
abbrev pub HasTooMany : Event → List Event → Type 0
HasTooMany e past = IsSomeAnd (context_begun e past) (IsBeyond (contexts past))
