use Rattle.std.proofs.Common.{◌≡◌, ◌∙◌, ◌<◌, ◌/◌, ◌^◌, List, ap, ap₂, arith, length, map, set, subst, sym, ℕ}
use Rattle.std.proofs.lemmas.List.{map-set}
use Rattle.guest_words.specs.declared.rights.Rights.{Rights}
use Rattle.guest_memory.specs.Pages.{IsDirectory}
use Rattle.guest_memory.specs.State.{memory_in}
use Rattle.guest_memory.proofs.Directories.{page_seen, table_seen}
use Rattle.guest_memory.proofs.Unmapped.{directory_without, memory_without, without_table}
use Rattle.guest_memory.proofs.directory.Directory.drop_table.Goals as goal
use Rattle.guest_memory.proofs.directory.Directory.drop_table.Goals.{After-drop-index_mut}

directory_before : (c : After-drop-index_mut) → IsDirectory c.args.self.now
directory_before c = subst IsDirectory c.self.view_is c.self.invariant

inside : (c : After-drop-index_mut) → c.args.first / 2 ^ 10 < length c.args.self.now
inside c = let top = (directory_before c).top in let range = c.requires.range in omega (arith, top, range)

after : (c : After-drop-index_mut) → map table_seen (set c.self.inside.tables.items (c.args.first / 2 ^ 10) c.new.result) ≡ without_table c.args.self.now (c.args.first / 2 ^ 10)
after c =
    map-set table_seen c.self.inside.tables.items (c.args.first / 2 ^ 10) c.new.result
    ∙ ap₂ (λ (v : List (List (Rights × List ℕ))) (pages : List (Rights × List ℕ)). set v (c.args.first / 2 ^ 10) pages) c.self.view_is
    (ap (map page_seen) c.new.ensures.items)

pub invariant_of-self : goal.invariant_of-self
invariant_of-self c = subst IsDirectory (sym (after c)) (directory_without c.args.self.now (c.args.first / 2 ^ 10) (inside c) (directory_before c))

pub returns : goal.returns
returns c = ap memory_in (after c) ∙ memory_without c.args.self.now c.args.first (inside c) c.requires.whole c.requires.free
