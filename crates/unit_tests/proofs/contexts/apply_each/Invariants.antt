use Rattle.std.proofs.Common.{List}
use Rattle.trace_model.specs.declared.event_kinds.Event.{Event}
use Rattle.context_tree.specs.Trees.{TreeStandsFor}
use Rattle.shadow_core.specs.Profiling.{StandsFor as Stamps}
use Rattle.unit_tests.proofs.contexts.apply_each.Given as goal

abbrev pub invariant-loop-e : goal.invariant-loop-e
invariant-loop-e l = (past : List Event) × (Stamps 4294967295 l.profiler past × TreeStandsFor l.tree past)
