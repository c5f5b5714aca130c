use Rattle.std.proofs.Common.{◌≡◌, ◌∙◌, ap, sym, subst, map, ◌/◌, ◌%◌, ◌^◌, set, Some}
use Rattle.std.specs.Vec.{with_item}
use Rattle.shadow_pages.specs.Directory.{HasTable, IsDirectory, entry}
use Rattle.shadow_pages.proofs.Directories.{table_seen, with_entry, entry_written, entry_here, entry_there, table_kept, directory_kept}
use Rattle.shadow_pages.proofs.directory.Directory.put.Goals as goal
use Rattle.shadow_pages.proofs.directory.Directory.put.Goals.{After-self-1}

after : (c : After-self-1) → map table_seen (set c.self.inside.tables.items (c.args.number / 2 ^ 10) (with_item c.index_mut-table.result.now (c.args.number % 1024) (Some c.args.place))) ≡ with_entry c.args.self.now c.args.number (Some c.args.place)
after c = entry_written c.args.self.now c.self.inside.tables.items c.args.number c.index_mut-table.result.now (Some c.args.place) c.self.view_is c.index_mut-table.ensures.value c.requires

pub invariant_of-self : goal.invariant_of-self
invariant_of-self c = subst IsDirectory (sym (after c)) (directory_kept c.args.self.now c.args.number (Some c.args.place) c.requires (subst IsDirectory c.self.view_is c.self.invariant))

pub returns-clause-this : goal.returns-clause-this
returns-clause-this c = ap (λ d. entry d c.args.number) (after c) ∙ entry_here c.args.self.now c.args.number (Some c.args.place) c.requires

pub returns-clause-others : goal.returns-clause-others
returns-clause-others c = λ n ne. ap (λ d. entry d n) (after c) ∙ entry_there c.args.self.now c.args.number (Some c.args.place) n c.requires ne

pub returns-clause-tables : goal.returns-clause-tables
returns-clause-tables c = λ n has. subst (λ d. HasTable d n) (sym (after c)) (table_kept c.args.self.now c.args.number (Some c.args.place) n c.requires has)
