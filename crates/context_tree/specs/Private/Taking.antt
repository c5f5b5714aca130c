-- What of the contexts with their points an event asks for.
use Rattle.std.specs.Prelude.{◌≡◌, ◌<◌, ◌≤◌, true, List, All, is_some, length}
use Rattle.guest_words.specs.ByThread.{numbers, value_of}
use Rattle.trace_model.specs.declared.event_kinds.Event.{Event}
use Rattle.trace_model.specs.declared.event_kinds.Event.TheVariants.{Call, End, Ret, Start}
use Rattle.trace_model.specs.declared.slow_profile.Done.{Done}
use Rattle.context_tree.specs.Branches.{KeptBranches, current_of}
use Rattle.context_tree.specs.Links.{IsLinked}
use Rattle.context_tree.specs.Private.Ways.{ArePoints, IsWay}

-- Each context has its points, which have room for one activation more, and its links.
pub record IsWhole (kept : KeptBranches) : Type 0 where
  pub long : length kept.points ≡ length kept.places
  pub linked : IsLinked kept.places kept.links
  pub each : All ArePoints kept.points

-- A thread that starts is above all, another one is in a context, and above the context stand those of all that ends.
abbrev pub Takes : KeptBranches → Event → List Done → Type 0
Takes kept (Start tid entry) ends = All (λ n. n < tid) (numbers kept.threads)
Takes kept (Call tid entry back) ends = (is_some (value_of kept.threads tid) ≡ true) × (current_of kept tid ≤ length kept.places)
Takes kept (Ret tid target) ends = (is_some (value_of kept.threads tid) ≡ true) × IsWay kept.places (current_of kept tid) (length ends)
Takes kept (End tid) ends = IsWay kept.places (current_of kept tid) (length ends)
Takes kept e ends = Unit {0}
