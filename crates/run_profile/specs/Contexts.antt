-- The calling contexts of a past with their points.
use Rattle.std.specs.Prelude.{ℕ, ◌<◌, List, length, Option, Some, None}
use Rattle.trace_model.specs.declared.event_kinds.Event.{Event}
use Rattle.trace_model.specs.declared.slow_profile.Done.{Done}
use Rattle.context_tree.specs.Contexts.{contexts}
use Rattle.context_tree.specs.Trees.{KeptTree, TreeStandsFor}
use Rattle.guest_words.specs.declared.limits.TheConstants.{CONTEXTS}
use Rattle.run_profile.specs.Profile.{AreTotalsOf}
use Rattle.run_profile.specs.declared.totals.ContextTotals.{ContextTotals}

-- there are more contexts than can be numbered
abbrev pub IsPastNumbers : List Event → Type 0
IsPastNumbers past = CONTEXTS < length (contexts past)

-- the tree is that of the past, or there is none since a context has no number; of an event it takes all or nothing
abbrev pub HoldsContexts : Option KeptTree → List Event → List Done → Type 0
HoldsContexts None past ends = IsPastNumbers past
HoldsContexts (Some tree) past ends = TreeStandsFor tree past

-- The totals of the run, with its contexts.
pub record AreContextTotalsOf (most : ℕ) (totals : ContextTotals) (past : List Event) : Type 0 where
  pub totals_are : AreTotalsOf most totals.totals past
  pub tree : TreeStandsFor totals.tree past
