use Rattle.std.proofs.Common.{◌≡◌, ℕ, None, arith, replicate, subst, vec_len}
use Rattle.shadow_pages.proofs.directory.no_places.Goals as goal

pub returns : goal.returns
returns c = let n : vec_len c.fill.entries ≡ 1024 = omega arith in subst (λ (k : ℕ). c.fill.entries.items ≡ replicate k None) n c.fill.invariant.none
