-- The events that have a case of their own.
use Rattle.trace_model.specs.declared.event_kinds.Event.{Event}
use Rattle.trace_model.specs.declared.event_kinds.Event.TheVariants.{Read, Step, Write}

-- the event neither accesses words nor is a step
abbrev pub IsOther : Event → Type 0
IsOther (Read _ _ _) = ⊥
IsOther (Write _ _ _) = ⊥
IsOther (Step _) = ⊥
IsOther e = Unit {0}
