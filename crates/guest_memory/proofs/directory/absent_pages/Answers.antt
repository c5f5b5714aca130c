use Rattle.std.proofs.Common.{◌≡◌, [], arith, map, replicate, subst, vec_len}
use Rattle.std.proofs.Common.{ℕ, List}
use Rattle.guest_words.specs.declared.rights.Rights.{Rights}
use Rattle.guest_memory.specs.Pages.{no_rights}
use Rattle.guest_memory.proofs.directory.absent_pages.Goals as goal

pub returns : goal.returns
returns c = let n : vec_len c.fill.pages ≡ 1024 = omega arith in subst (λ (k : ℕ). map {B = Rights × List ℕ} (λ p. (p.rights, p.bytes.items)) c.fill.pages.items ≡ replicate k (no_rights, [])) n c.fill.invariant.absent
