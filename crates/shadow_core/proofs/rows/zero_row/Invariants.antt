use Rattle.std.proofs.Common.{◌≡◌, ◌≤◌, ◌-◌, map, replicate, vec_len}
use Rattle.shadow_core.proofs.rows.zero_row.Given as goal

abbrev pub invariant-fill : goal.invariant-fill
invariant-fill g l = record { few : vec_len l.row ≤ 1024; zero : map g.S.Stamp.number_of l.row.items ≡ replicate (vec_len l.row) 0 }

abbrev pub decreases-fill : goal.decreases-fill
decreases-fill g l = 1024 - vec_len l.row
