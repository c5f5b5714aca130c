-- The text of the calling contexts of a run.
use Rattle.std.specs.Prelude.{ℕ, ◌-◌, List, ◌++◌, codes, length, slice_index}
use Rattle.std.specs.List.{flat_map}
use Rattle.trace_model.specs.declared.event_kinds.Event.{Event}
use Rattle.context_tree.specs.Points.{points_in}
use Rattle.profile_report.specs.LineForms.{ended, hex_address, labelled, point_line}

-- a context: its depth, and its entry
abbrev pub context_line : ℕ → ℕ → List ℕ
context_line depth entry = labelled (codes "context ") depth ++ codes " " ++ hex_address entry

-- the line of a context, whose depth is one less than its entries and whose entry is the last of them, and a line for each of
-- its points
abbrev pub context_text : List Event → List ℕ → List ℕ
context_text past c =
    ended (context_line (length c - 1) (slice_index c (length c - 1))) ++ flat_map (λ p. ended (point_line p)) (points_in past c)

-- the version, the contexts in this order, and how many they are
abbrev pub contexts_text : List Event → List (List ℕ) → List ℕ
contexts_text past ordered =
    ended (codes "contexts 1") ++ flat_map (context_text past) ordered ++ ended (labelled (codes "done ") (length ordered))
