use Rattle.std.proofs.Common.{◌≡◌, ◌≤◌, ◌-◌, None, replicate, vec_len}
use Rattle.shadow_pages.proofs.directory.no_places.Given as goal

abbrev pub invariant-fill : goal.invariant-fill
invariant-fill l = record { few : vec_len l.entries ≤ 1024; none : l.entries.items ≡ replicate (vec_len l.entries) None }

abbrev pub decreases-fill : goal.decreases-fill
decreases-fill l = 1024 - vec_len l.entries
