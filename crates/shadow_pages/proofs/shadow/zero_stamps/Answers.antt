use Rattle.std.proofs.Common.{◌≡◌, ℕ, arith, map, replicate, subst, vec_len}
use Rattle.shadow_pages.specs.Pages.{zeros}
use Rattle.shadow_pages.proofs.shadow.zero_stamps.Goals as goal

pub returns : goal.returns
unfolding zeros
returns g c = let n : vec_len c.fill.stamps ≡ 1024 = omega arith in subst (λ (k : ℕ). map g.S.Stamp.number_of c.fill.stamps.items ≡ replicate k 0) n c.fill.invariant.zero
