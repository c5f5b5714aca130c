-- The calling contexts of a report, in the words of a tree: laws on the definitions of context_tree.
use Rattle.std.specs.Prelude.{◌≡◌, ℕ, ◌+◌, ◌<◌, true, List, [], ◌∷◌, ◌++◌, drop, slice_get, Some}
use Rattle.std.specs.List.{list_any, position_or_len}
use Rattle.trace_model.specs.declared.event_kinds.Event.{Event}
use Rattle.trace_model.specs.declared.activations.Activation.{Activation}
use Rattle.trace_model.specs.Activations.{open_calls}
use Rattle.trace_model.specs.Sizes.{before}
use Rattle.context_tree.specs.Contexts.{context_of, same}
use Rattle.context_tree.specs.Order.{comes_before}

-- The context of an open activation of a thread is the one that it got when it began: that of the calls that were open then, with
-- its own as the innermost.
abbrev pub ContextsAreOfBeginnings : Type 0
ContextsAreOfBeginnings =
    (past : List Event) (t place : ℕ) (a : Activation) → slice_get (open_calls past t) place ≡ Some a
    → context_of (drop place (open_calls past t)) ≡ context_of (open_calls (before past (a.at + 1)) t)

-- The order of a text is depth first: a context comes before all that are under it; between it and one of these stand only others
-- that are under it; and those right under it stand in the order in which the list has them, that of their first begins.
pub record IsDepthFirst (contexts : List (List ℕ)) : Type 0 where
  pub above : (c : List ℕ) (x : ℕ) (more : List ℕ) → comes_before contexts c (c ++ x ∷ more) ≡ true
  pub together : (c more d : List ℕ) → list_any (same c) contexts ≡ true → comes_before contexts c d ≡ true → comes_before contexts d (c ++ more) ≡ true
      → (rest : List ℕ) × (d ≡ c ++ rest)
  pub siblings : (c : List ℕ) (x y : ℕ) → position_or_len (same (c ++ x ∷ [])) contexts < position_or_len (same (c ++ y ∷ [])) contexts
      → comes_before contexts (c ++ x ∷ []) (c ++ y ∷ []) ≡ true

pub record ContextsAreATree : Type 0 where
  pub begun : ContextsAreOfBeginnings
  pub order : (contexts : List (List ℕ)) → IsDepthFirst contexts
