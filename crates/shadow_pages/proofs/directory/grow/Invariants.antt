use Rattle.std.proofs.Common.{◌≡◌, ◌≤◌, ◌+◌, ◌-◌, ℕ, [], get_or, map, vec_len}
use Rattle.shadow_pages.proofs.directory.grow.Given as goal

abbrev pub invariant-grow : goal.invariant-grow
invariant-grow l = record {
  tables : (i : ℕ) → get_or (map (λ t. t.items) l.tables.items) i [] ≡ get_or (map (λ t. t.items) l.initial.tables.items) i [];
  longer : vec_len l.initial.tables ≤ vec_len l.tables;
}

abbrev pub decreases-grow : goal.decreases-grow
decreases-grow l = (l.index + 1) - vec_len l.tables
