use Rattle.std.proofs.Common.{◌≡◌, ℕ, arith, map, replicate, subst, vec_len}
use Rattle.shadow_pages.specs.Pages.{zeros}
use Rattle.shadow_core.proofs.rows.zero_row.Goals as goal

pub returns : goal.returns
unfolding zeros
returns g c = let n : vec_len c.fill.row ≡ 1024 = omega arith in subst (λ (k : ℕ). map g.S.Stamp.number_of c.fill.row.items ≡ replicate k 0) n c.fill.invariant.zero
