-- Contexts, their points and the threads in them, as kept of some past.
use Rattle.std.specs.Prelude.{List}
use Rattle.trace_model.specs.declared.event_kinds.Event.{Event}
use Rattle.trace_model.specs.WellFormed.{IsLight}
use Rattle.context_tree.specs.Branches.{KeptBranches, BranchesStandFor}

-- It is what is kept of some past.
pub record IsOfSome (kept : KeptBranches) : Type 0 where
  pub past : List Event
  pub now : BranchesStandFor kept past

-- It is what is kept of a past that is light.
pub record IsOfLight (kept : KeptBranches) : Type 0 where
  pub past : List Event
  pub now : BranchesStandFor kept past
  pub light : IsLight past
