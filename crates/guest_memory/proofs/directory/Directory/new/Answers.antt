use Rattle.std.proofs.Common.{◌≡◌, List, [], ◌∙◌, ap, sym, subst, map, replicate, ℕ, Vec, Global, zero, suc, refl, ◌∷◌}
use Rattle.std.proofs.lemmas.Simd.{map-map}
use Rattle.guest_words.specs.declared.rights.Rights.{Rights}
use Rattle.guest_memory.specs.declared.directory.Page.{Page}
use Rattle.guest_memory.specs.Pages.{IsDirectory}
use Rattle.guest_memory.specs.State.{memory_in}
use Rattle.guest_memory.proofs.Directories.{page_seen, table_seen, empty_directory, empty_is_directory}
use Rattle.guest_memory.proofs.PageChanges.{empty_memory}
use Rattle.guest_memory.proofs.directory.Directory.new.Goals as goal

empty_seen : (n : ℕ) → map (map page_seen) (replicate n []) ≡ replicate n []
empty_seen zero = refl
empty_seen (suc n) = ap (λ (ts : List (List (Rights × List ℕ))). [] ∷ ts) (empty_seen n)

seen : (c : goal.In_ok-empty_rows) → map table_seen c.in_ok-empty_rows.field-0.items ≡ empty_directory
seen c = sym (map-map (map page_seen) (λ (r : Vec Page Global). r.items) c.in_ok-empty_rows.field-0.items) ∙ (ap (map (map page_seen)) c.in_ok-empty_rows.ensures ∙ empty_seen 1024)

pub invariant_of-result : goal.invariant_of-result
invariant_of-result c = subst IsDirectory (sym (seen c)) empty_is_directory

pub returns : goal.returns
returns c = ap memory_in (seen c) ∙ empty_memory
