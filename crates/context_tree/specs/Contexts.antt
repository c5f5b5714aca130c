-- The calling contexts of a run, by its past, the list of its events with the newest first. A context is a list of entries,
-- the outermost first: those of the activations that are open in a thread when one of them begins, its own last.
use Rattle.std.specs.Prelude.{ℕ, Bool, nat_eq, if◌then◌else◌, List, [], ◌∷◌, ◌++◌, map, reverse, Option, Some, None}
use Rattle.std.specs.List.{list_any}
use Rattle.std.specs.Cmp.Lexicographic.{pointwise}
use Rattle.trace_model.specs.declared.event_kinds.Event.{Event}
use Rattle.trace_model.specs.declared.event_kinds.Event.TheVariants.{Call, Start}
use Rattle.trace_model.specs.declared.activations.Activation.{Activation}
use Rattle.trace_model.specs.Activations.{open_calls}

-- two contexts are the same
abbrev pub same : List ℕ → List ℕ → Bool
same c d = pointwise nat_eq c d

-- the context of the innermost of these activations, which stand with the innermost first
abbrev pub context_of : List Activation → List ℕ
context_of calls = reverse (map (λ a. a.entry) calls)

-- the context of the activation that the event begins after the past, if it begins one
abbrev pub context_begun : Event → List Event → Option (List ℕ)
context_begun (Start tid entry) past = Some (context_of (open_calls (Start tid entry ∷ past) tid))
context_begun (Call tid entry back) past = Some (context_of (open_calls (Call tid entry back ∷ past) tid))
context_begun _ past = None

-- the contexts with this one, which is added at the end unless it is among them
abbrev pub with_context : List (List ℕ) → List ℕ → List (List ℕ)
with_context contexts c = if list_any (same c) contexts then contexts else contexts ++ c ∷ []

abbrev pub with_begun : List (List ℕ) → Option (List ℕ) → List (List ℕ)
with_begun contexts None = contexts
with_begun contexts (Some c) = with_context contexts c

-- the contexts of all activations that began, each once, in order of their first begin
abbrev pub contexts : List Event → List (List ℕ)
contexts [] = []
contexts (e ∷ past) = with_begun (contexts past) (context_begun e past)
