use Rattle.std.proofs.Common.{◌≡◌, ◌≤◌, ◌-◌, [], map, replicate, vec_len}
use Rattle.std.proofs.Common.{ℕ, List}
use Rattle.guest_words.specs.declared.rights.Rights.{Rights}
use Rattle.guest_memory.specs.Pages.{no_rights}
use Rattle.guest_memory.proofs.directory.absent_pages.Given as goal

abbrev pub invariant-fill : goal.invariant-fill
invariant-fill l = record { few : vec_len l.pages ≤ 1024; absent : map {B = Rights × List ℕ} (λ p. (p.rights, p.bytes.items)) l.pages.items ≡ replicate (vec_len l.pages) (no_rights, []) }

abbrev pub decreases-fill : goal.decreases-fill
decreases-fill l = 1024 - vec_len l.pages
